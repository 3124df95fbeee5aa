use Rattle.std.proofs.Common.{◌≡◌, All, [], length}
use Rattle.trace_rows.proofs.values.no_times.Given as goal

abbrev pub invariant-loop : goal.invariant-loop
invariant-loop l = (length l.times.items ≡ l.counter) × All (λ t. t ≡ []) l.times.items
