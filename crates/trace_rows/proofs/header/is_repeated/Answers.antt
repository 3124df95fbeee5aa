use Rattle.std.proofs.Common.{sym, ◌∙◌, arith}
use Rattle.csv.specs.Records.{fields_of}
use Rattle.trace_rows.proofs.HeaderColumns.{not-repeated, repeated-there}
use Rattle.trace_rows.proofs.header.is_repeated.Goals as goal

pub returns-then-is_cell : goal.returns-then-is_cell
returns-then-is_cell c =
    sym (repeated-there (fields_of c.args.header.now) c.args.name.now c.loop-earlier.earlier c.args.place (omega arith) (omega arith) c.requires (sym c.is_cell.ensures ∙ c.if-is_cell.true))

pub loop-earlier-preserved : goal.loop-earlier-preserved
loop-earlier-preserved c =
    not-repeated (fields_of c.args.header.now) c.args.name.now c.loop-earlier.earlier (omega arith) (omega arith) c.loop-earlier.invariant (sym c.is_cell.ensures ∙ c.if-is_cell.false)
