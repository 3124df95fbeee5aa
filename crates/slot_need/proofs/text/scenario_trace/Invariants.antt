use Rattle.std.proofs.Common.{◌≡◌, ◌+◌, ◌*◌, ◌≤◌, length, map}
use Rattle.std.specs.List.{range_with_len}
use Rattle.trace_rows.specs.Written.{written_section}
use Rattle.slot_need.specs.Bodies.{column_names, row_at}
use Rattle.slot_need.specs.Scenarios.{firing_time, scenario_columns}
use Rattle.slot_need.proofs.text.scenario_trace.Given as goal

abbrev pub invariant-loop-firing : goal.invariant-loop-firing
invariant-loop-firing l = record {
  text : l.text ≡ written_section (column_names l.diagram.events (scenario_columns l.diagram l.task)) (map (λ k. row_at (scenario_columns l.diagram l.task) (firing_time l.diagram l.task k) k) (range_with_len 0 l.firing));
  short : length l.text ≤ 500 + 100 * l.firing;
}
