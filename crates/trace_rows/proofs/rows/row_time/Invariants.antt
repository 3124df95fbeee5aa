use Rattle.csv.specs.Records.{fields_of}
use Rattle.trace_rows.proofs.ColumnCells.{HasSaidBefore}
use Rattle.trace_rows.proofs.RowFits.{FitsFrom}
use Rattle.trace_rows.proofs.rows.row_time.Given as goal

abbrev pub invariant-loop-column : goal.invariant-loop-column
invariant-loop-column l = record {
  fits : FitsFrom l.kinds (fields_of l.row) l.column;
  before : HasSaidBefore l.kinds (fields_of l.row) l.said l.column;
}
