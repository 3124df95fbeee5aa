use Rattle.trace_io.specs.Merging.{IsLeast}
use Rattle.trace_io.proofs.batches.least_of.Given as goal

abbrev pub invariant-loop-i : goal.invariant-loop-i
invariant-loop-i l = IsLeast l.until l.times l.i l.least
