use Rattle.std.proofs.Common.{◌≡◌, [], replicate}
use Rattle.virtual_time.proofs.run.empty_lists.Given as goal

abbrev pub invariant-loop : goal.invariant-loop
invariant-loop l = l.lists ≡ replicate l.counter []
