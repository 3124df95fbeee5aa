use Rattle.sync_meaning.proofs.Counts.{MarkedUpTo}
use Rattle.sync_meaning.proofs.run.mark.Given as goal

abbrev pub invariant-loop-task : goal.invariant-loop-task
invariant-loop-task l = MarkedUpTo l.task-index l.task-items l.initial.named l.named
