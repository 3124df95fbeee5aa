use Rattle.csv.specs.Records.{fields_of}
use Rattle.trace_rows.proofs.HeaderColumns.{HeaderFrom}
use Rattle.trace_rows.proofs.header.is_header.Given as goal

abbrev pub invariant-loop-place : goal.invariant-loop-place
invariant-loop-place l = HeaderFrom l.inputs l.events (fields_of l.first) l.place
