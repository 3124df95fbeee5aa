use Rattle.std.proofs.Common.{◌≡◌, List, take, ap, ◌∙◌, arith}
use Rattle.std.specs.List.{flat_map}
use Rattle.std.proofs.lemmas.List.{take_all}
use Rattle.dbp_top.specs.Commands.{row_of}
use Rattle.dbp_top.specs.Patterns.{listed_forms}
use Rattle.dbp_top.specs.declared.table.Row.{Row}
use Rattle.dbp_top.proofs.CommandRows.{all-listed}
use Rattle.dbp_top.proofs.table.command_lines.Goals as goal

pub returns : goal.returns
returns c =
    let rows = c.rows-row-items.result.now in
    let whole : take c.loop-row.row-index rows ≡ rows = take_all c.loop-row.row-index rows (omega arith) in
    c.loop-row.invariant ∙ ap (λ (l : List Row). flat_map (λ r. listed_forms (row_of r).0) l) whole ∙ all-listed rows c.rows-row-items.ensures
