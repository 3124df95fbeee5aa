use Rattle.std.proofs.Common.{◌≤◌, length}
use Rattle.trace_io.specs.Merging.{AreNext, IsLeast, TakesDue}
use Rattle.trace_io.proofs.batches.take_due.Given as goal

abbrev pub invariant-loop-i : goal.invariant-loop-i
invariant-loop-i l = record {
  so_far : TakesDue l.until l.events l.clocks l.initial.taken l.taken l.time l.i l.tasks;
  few : length l.tasks ≤ l.i;
  now : AreNext l.until l.events l.clocks l.taken l.next;
  least : IsLeast l.until l.next l.i l.least;
}
