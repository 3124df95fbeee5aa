use Rattle.std.proofs.Common.{◌≡◌, length}
use Rattle.party_exec.proofs.runs.open_entry.Given as goal

abbrev pub invariant-loop : goal.invariant-loop
invariant-loop l = length l.tasks ≡ l.counter
