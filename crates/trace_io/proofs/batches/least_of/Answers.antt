use Rattle.trace_io.proofs.Due.{least-more}
use Rattle.trace_io.proofs.batches.least_of.Goals as goal

pub loop-i-preserved : goal.loop-i-preserved
loop-i-preserved c = rw c.min-least.ensures (least-more c.args.until c.args.times.now c.loop-i.i c.loop-i.least c.loop-i.invariant)
