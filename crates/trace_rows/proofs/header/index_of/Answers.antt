use Rattle.std.proofs.Common.{sym, ◌∙◌, arith}
use Rattle.csv.specs.Records.{fields_of}
use Rattle.trace_rows.proofs.HeaderColumns.{place-here, place-later}
use Rattle.trace_rows.proofs.header.index_of.Goals as goal

pub returns-then-is_cell : goal.returns-then-is_cell
returns-then-is_cell c =
    place-here (fields_of c.args.header.now) c.args.name.now c.loop-place.place c.loop-place.invariant (omega arith) (sym c.is_cell.ensures ∙ c.if-is_cell.true)

pub loop-place-preserved : goal.loop-place-preserved
loop-place-preserved c =
    place-later (fields_of c.args.header.now) c.args.name.now c.loop-place.place (omega arith) c.loop-place.invariant (omega arith) (sym c.is_cell.ensures ∙ c.if-is_cell.false)
