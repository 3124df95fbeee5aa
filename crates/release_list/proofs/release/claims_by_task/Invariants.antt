-- The tasks so far.
use Rattle.std.proofs.Common.{◌≡◌}
use Rattle.release_list.specs.Releases.{claims_by_task}
use Rattle.release_list.proofs.release.claims_by_task.Given as goal

abbrev pub invariant-loop-task : goal.invariant-loop-task
invariant-loop-task l = l.claims ≡ claims_by_task l.links l.task
