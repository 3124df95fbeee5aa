use Rattle.rank_find.proofs.RankedBodies.{RankedSoFar}
use Rattle.rank_find.proofs.body.rank_tasks.Given as goal

abbrev pub invariant-loop-task : goal.invariant-loop-task
invariant-loop-task l = RankedSoFar l.order l.task l.initial.tasks l.tasks
