use Rattle.std.proofs.Common.{◌≡◌, ◌<◌, ◌≤◌, All, length, map}
use Rattle.std.specs.Prelude.{filter}
use Rattle.std.specs.List.{range_with_len}
use Rattle.slot_need.specs.Scenarios.{column_of, is_ever}
use Rattle.slot_need.proofs.column.scenario_columns.Given as goal

abbrev pub invariant-loop-event : goal.invariant-loop-event
invariant-loop-event l = record {
  columns : l.columns.items ≡ filter (λ c. is_ever c.firing) (map (column_of l.diagram l.task) (range_with_len 0 l.event));
  few : length l.columns.items ≤ l.event;
  named : All (λ c. c.event < length l.diagram.events) l.columns.items;
}
