use Rattle.std.proofs.Common.{◌≡◌, take}
use Rattle.trace_rows.specs.Columns.{times_with}
use Rattle.trace_rows.proofs.values.push_times.Given as goal

abbrev pub invariant-loop-event : goal.invariant-loop-event
invariant-loop-event l = l.events ≡ times_with l.time (take l.event l.columns) l.said l.fn.events
