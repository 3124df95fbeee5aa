-- The tasks so far.
use Rattle.std.proofs.Common.{◌≡◌, ◌++◌, map, take}
use Rattle.release_list.specs.declared.release.Release.TheVariants.{Aim}
use Rattle.release_list.proofs.release.push_aims.Given as goal

abbrev pub invariant-loop-task : goal.invariant-loop-task
invariant-loop-task l = l.list ≡ l.fn.list ++ map Aim (take l.task-index l.tasks)
