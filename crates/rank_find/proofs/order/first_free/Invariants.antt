use Rattle.rank_find.proofs.FreeTasks.{FirstSoFar}
use Rattle.rank_find.proofs.order.first_free.Given as goal

abbrev pub invariant-loop-task : goal.invariant-loop-task
invariant-loop-task l = FirstSoFar l.diagram l.placed l.task l.first
