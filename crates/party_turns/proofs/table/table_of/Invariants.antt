use Rattle.std.proofs.Common.{◌≡◌, ◌-◌, length}
use Rattle.party_turns.proofs.Finished.{AreAll}
use Rattle.party_turns.proofs.table.table_of.Given as goal

abbrev pub invariant-loop-party : goal.invariant-loop-party
invariant-loop-party l = record {
  size : length l.tasks ≡ l.party-index - 1;
  each : AreAll l.words l.tasks;
}
