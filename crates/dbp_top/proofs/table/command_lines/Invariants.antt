use Rattle.std.proofs.Common.{◌≡◌, take, string_bytes}
use Rattle.std.specs.List.{flat_map}
use Rattle.dbp_top.specs.Commands.{row_of}
use Rattle.dbp_top.specs.Patterns.{listed_forms}
use Rattle.dbp_top.proofs.table.command_lines.Given as goal

abbrev pub invariant-loop-row : goal.invariant-loop-row
invariant-loop-row l = string_bytes l.text ≡ flat_map (λ r. listed_forms (row_of r).0) (take l.row-index l.row-items)
