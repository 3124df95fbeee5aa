use Rattle.std.proofs.Common.{◌≡◌, ◌+◌, ◌*◌, ◌≤◌, ◌++◌, length, take}
use Rattle.std.specs.List.{flat_map}
use Rattle.slot_need.specs.Cells.{cell_bytes}
use Rattle.slot_need.proofs.text.push_cells.Given as goal

abbrev pub invariant-loop-column : goal.invariant-loop-column
invariant-loop-column l = record {
  text : l.text ≡ l.fn.text ++ flat_map (cell_bytes l.firing) (take l.column-index l.columns);
  short : length l.text ≤ length l.fn.text + 2 * l.column-index;
}
