use Rattle.std.proofs.Common.{◌≡◌, ◌≤◌, length, take}
use Rattle.std.specs.Prelude.{filter}
use Rattle.dbp_plan.specs.Clocks.{base_times}
use Rattle.trace_io.specs.Spans.{IsSpanStart, is_on_by}
use Rattle.trace_io.proofs.guards.times_on.Given as goal

abbrev pub invariant-loop-k : goal.invariant-loop-k
invariant-loop-k l = record {
  start : IsSpanStart (base_times l.until l.events l.clock) l.own l.k l.from;
  made : l.times ≡ filter (is_on_by l.first l.own) (take l.from (base_times l.until l.events l.clock));
  few : length l.times ≤ l.from;
}
