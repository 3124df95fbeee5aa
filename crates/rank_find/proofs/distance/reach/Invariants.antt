use Rattle.rank_find.specs.Distances.{AreReached}
use Rattle.rank_find.proofs.distance.reach.Given as goal

abbrev pub invariant-loop-task : goal.invariant-loop-task
invariant-loop-task l = AreReached l.writers l.task l.distance l.initial.distances l.distances
