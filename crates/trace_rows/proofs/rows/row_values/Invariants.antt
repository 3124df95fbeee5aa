use Rattle.std.proofs.Common.{◌≡◌, ◌*◌, ◌≤◌, drop, length, take}
use Rattle.csv.specs.Records.{fields_of}
use Rattle.dbp_plan.specs.declared.limits.TheConstants.{MAX_INPUTS}
use Rattle.dbp_plan.proofs.FirstFaults.{FirstFrom}
use Rattle.trace_rows.specs.Records.{StandsAtLine, records_left}
use Rattle.trace_rows.specs.Rows.{fault_after, last_time}
use Rattle.trace_rows.specs.Values.{event_times, samples_of}
use Rattle.trace_rows.specs.declared.rows.TheConstants.{MAX_ROWS}
use Rattle.trace_rows.proofs.rows.row_values.Given as goal

abbrev pub invariant-loop-row : goal.invariant-loop-row
invariant-loop-row l = record {
  stands : StandsAtLine l.rows;
  left : records_left l.rows ≡ drop l.place (records_left l.fn.rows);
  within : l.place ≤ length (records_left l.fn.rows);
  from : FirstFrom (fault_after l.until l.columns.kinds.items) (records_left l.fn.rows) l.lines l.place;
  timed : l.before ≡ last_time (take l.place (records_left l.fn.rows));
  sampled : l.samples ≡ samples_of (drop 1 (fields_of l.header)) (take l.place (records_left l.fn.rows)) l.inputs;
  marked : l.marked.items ≡ event_times (drop 1 (fields_of l.header)) (take l.place (records_left l.fn.rows)) l.events;
  places : length l.said.items ≡ length l.columns.kinds.items;
  room : l.place ≤ MAX_ROWS;
  few : length l.samples ≤ l.place * MAX_INPUTS;
}

abbrev pub decreases-loop-row : goal.decreases-loop-row
decreases-loop-row l = length (records_left l.rows)
