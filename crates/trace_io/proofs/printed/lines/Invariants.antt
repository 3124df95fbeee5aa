use Rattle.trace_io.proofs.AllLines.{PrintedTo}
use Rattle.trace_io.proofs.printed.lines.Given as goal

abbrev pub invariant-loop-batch : goal.invariant-loop-batch
invariant-loop-batch l = PrintedTo l.plan.diagram l.plan.batches l.table l.batch-index l.counts.items l.text.items
