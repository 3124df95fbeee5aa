use Rattle.std.proofs.Common.{◌∙◌, sym, ap}
use Rattle.std.specs.Prelude.{nat_le}
use Rattle.std.specs.List.{list_any}
use Rattle.csv.specs.Records.{text_of}
use Rattle.trace_rows.proofs.BareCells.{bare-above-space, bare-cells}
use Rattle.trace_rows.proofs.section.trim_cells.Goals as goal

pub returns-then-not-may_have_space : goal.returns-then-not-may_have_space
returns-then-not-may_have_space c =
    bare-cells c.args.cells.now (bare-above-space (text_of c.args.cells.now) (ap (list_any (λ b. nat_le b 32)) (sym c.as_slice.ensures) ∙ sym c.may_have_space.ensures ∙ c.if-not-may_have_space.true))
