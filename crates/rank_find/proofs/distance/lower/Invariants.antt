use Rattle.std.proofs.Common.{take}
use Rattle.rank_find.specs.Distances.{AreLowered}
use Rattle.rank_find.proofs.distance.lower.Given as goal

abbrev pub invariant-loop-task : goal.invariant-loop-task
invariant-loop-task l = AreLowered (take l.task-index l.tasks) l.distance l.initial.distances l.distances
