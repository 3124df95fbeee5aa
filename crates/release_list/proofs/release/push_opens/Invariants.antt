-- The tasks so far.
use Rattle.std.proofs.Common.{◌≡◌, ◌++◌, map, take}
use Rattle.release_list.specs.declared.release.Release.TheVariants.{OpenGate}
use Rattle.release_list.proofs.release.push_opens.Given as goal

abbrev pub invariant-loop-task : goal.invariant-loop-task
invariant-loop-task l = l.list ≡ l.fn.list ++ map OpenGate (take l.task-index l.tasks)
