-- The tasks so far.
use Rattle.std.proofs.Common.{◌≡◌, ◌++◌, take}
use Rattle.release_list.specs.Releases.{claims_of}
use Rattle.release_list.proofs.release.push_claims.Given as goal

abbrev pub invariant-loop-task : goal.invariant-loop-task
invariant-loop-task l = l.list ≡ l.fn.list ++ claims_of l.links (take l.task-index l.tasks)
