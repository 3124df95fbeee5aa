use Rattle.rank_find.proofs.Writers.{WritersSoFar}
use Rattle.rank_find.proofs.links.writers_by_task.Given as goal

abbrev pub invariant-loop-task : goal.invariant-loop-task
invariant-loop-task l = WritersSoFar l.diagram.links l.task l.writers
