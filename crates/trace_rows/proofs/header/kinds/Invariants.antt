use Rattle.std.proofs.Common.{◌≡◌, map}
use Rattle.csv.specs.Records.{fields_of}
use Rattle.trace_rows.specs.Headers.{kind_of_column}
use Rattle.trace_rows.proofs.HeaderColumns.{columns_before}
use Rattle.trace_rows.proofs.header.kinds.Given as goal

abbrev pub invariant-loop-place : goal.invariant-loop-place
invariant-loop-place l = l.kinds.items ≡ map (kind_of_column l.inputs) (columns_before (fields_of l.header) l.place)
