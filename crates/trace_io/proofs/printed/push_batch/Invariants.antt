use Rattle.trace_io.proofs.BatchLines.{LinesTo}
use Rattle.trace_io.proofs.printed.push_batch.Given as goal

abbrev pub invariant-loop-task : goal.invariant-loop-task
invariant-loop-task l = LinesTo l.tasks l.table l.batch.time l.initial.counts l.task-items l.initial.text.items l.text.items l.counts l.task-index
