use Rattle.std.proofs.Common.{◌≡◌, ◌+◌, Some, None, get_or, sym, arith, rules}
use Rattle.csv.specs.Records.{field_at, fields_of}
use Rattle.csv.proofs.RecordFacts.{field-there}
use Rattle.trace_rows.specs.declared.cell.Kind.TheVariants.{Value}
use Rattle.trace_rows.specs.Columns.{HasSaid, cell_at, content_in}
use Rattle.trace_rows.proofs.ColumnCells.{cell-of-column, one-more-said, on-some}
use Rattle.trace_rows.proofs.RowFits.{all-fit, fits-later, fits-not}
use Rattle.trace_rows.proofs.rows.row_time.Goals as goal

pub returns-in_err-get-clause-time : goal.returns-in_err-get-clause-time
returns-in_err-get-clause-time c =
    let none : field_at (fields_of c.args.row.now) (c.loop-column.column + 1) ≡ None = sym (rw c.in_err-get.was at c.get.ensures.value) in
    absurd (field-there (fields_of c.args.row.now) (c.loop-column.column + 1) (omega (arith, c.requires.whole)) none)

pub returns-in_err-said-clause-time : goal.returns-in_err-said-clause-time
returns-in_err-said-clause-time c =
    let none : c.from_residual-in_err-said.result ≡ None = search rules in
    let cell : field_at (fields_of c.args.row.now) (c.loop-column.column + 1) ≡ Some c.in_ok-get.field-0.now = sym (rw c.in_ok-get.was at c.get.ensures.value) in
    rw none (fits-not c.args.kinds.now (fields_of c.args.row.now) c.loop-column.column Value c.in_ok-get.field-0.now c.loop-column.invariant.fits (omega arith) cell c.in_err-said.ensures)

pub loop-column-preserved : goal.loop-column-preserved
loop-column-preserved c =
    let row = fields_of c.args.row.now in
    let cell : field_at row (c.loop-column.column + 1) ≡ Some c.in_ok-get.field-0.now = sym (rw c.in_ok-get.was at c.get.ensures.value) in
    let at : c.in_ok-get.field-0.now ≡ cell_at c.loop-column.column row = cell-of-column row c.loop-column.column c.in_ok-get.field-0.now cell in
    let one : c.in_ok-said.field-0 ≡ content_in (get_or c.args.kinds.now c.loop-column.column Value) (cell_at c.loop-column.column row) = rw at at c.in_ok-said.ensures.1 in
    record {
      fits = fits-later c.args.kinds.now row c.loop-column.column Value c.in_ok-get.field-0.now c.loop-column.invariant.fits (omega arith) cell c.in_ok-said.ensures.0;
      before = one-more-said c.args.kinds.now row c.loop-column.said c.loop-column.column c.in_ok-said.field-0 (omega (arith, c.requires.places)) c.loop-column.invariant.before one;
    }

pub returns-in_err-get-2-clause-time : goal.returns-in_err-get-2-clause-time
returns-in_err-get-2-clause-time c =
    let none : field_at (fields_of c.args.row.now) 0 ≡ None = sym (rw c.in_err-get-2.was at c.get-2.ensures.value) in
    absurd (field-there (fields_of c.args.row.now) 0 (omega (arith, c.requires.whole)) none)

pub returns-clause-time : goal.returns-clause-time
returns-clause-time c =
    let cell : field_at (fields_of c.args.row.now) 0 ≡ Some c.in_ok-get-2.field-0.now = sym (rw c.in_ok-get-2.was at c.get-2.ensures.value) in
    all-fit c.args.kinds.now (fields_of c.args.row.now) c.loop-column.column c.in_ok-get-2.field-0.now c.time_in.result c.loop-column.invariant.fits (omega arith) c.requires.whole cell c.time_in.ensures

pub returns-clause-said : goal.returns-clause-said
returns-clause-said c =
    let has : HasSaid c.args.kinds.now (fields_of c.args.row.now) c.loop-column.said = λ k below. c.loop-column.invariant.before k (omega arith) in
    on-some c.time_in.result _ has
