use Rattle.std.proofs.Common.{◌≡◌, ◌+◌, ◌≤◌, All, List, length, map, take}
use Rattle.dbp_plan.specs.declared.schedule.Sample.{Sample}
use Rattle.dbp_plan.specs.Clocks.{base_times}
use Rattle.trace_io.specs.Batches.{times_in}
use Rattle.trace_io.specs.Counts.{IsClockOf, IsTimetable}
use Rattle.trace_io.specs.Guards.{HasItsSamples, HasMoreEvents}
use Rattle.trace_io.proofs.guards.merge_clocks.Given as goal

abbrev pub invariant-loop-i : goal.invariant-loop-i
invariant-loop-i l = record {
  more : HasMoreEvents l.fn.events.items l.events.items;
  few : length l.events.items ≤ length l.fn.events.items + l.i;
  table : IsTimetable l.diagram.until l.events.items;
  places : length l.clocks.items ≡ l.i;
  clocks : All (IsClockOf (length l.events.items)) l.clocks.items;
  times : (samples : List Sample) → All (HasItsSamples samples l.own) l.diagram.tasks
      → map (base_times l.diagram.until l.events.items) l.clocks.items ≡ map (times_in l.diagram samples l.fn.events.items) (take l.i l.diagram.tasks);
}
