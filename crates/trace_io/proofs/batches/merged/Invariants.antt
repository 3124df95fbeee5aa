use Rattle.std.proofs.Common.{◌-◌, length}
use Rattle.trace_io.specs.Merging.{AreNext, IsLeast}
use Rattle.trace_io.proofs.Merges.{Merged, after}
use Rattle.trace_io.proofs.batches.merged.Given as goal

abbrev pub invariant-loop-time : goal.invariant-loop-time
invariant-loop-time l = record {
  merged : Merged l.until l.events l.clocks l.taken.items l.made;
  now : AreNext l.until l.events l.clocks l.taken.items l.next.items;
  least : IsLeast l.until l.next.items (length l.clocks) l.time;
}

abbrev pub decreases-loop-time : goal.decreases-loop-time
decreases-loop-time l = l.until - after l.made
