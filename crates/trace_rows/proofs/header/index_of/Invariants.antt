use Rattle.csv.specs.Records.{fields_of}
use Rattle.trace_rows.proofs.HeaderColumns.{PlaceFrom}
use Rattle.trace_rows.proofs.header.index_of.Given as goal

abbrev pub invariant-loop-place : goal.invariant-loop-place
invariant-loop-place l = PlaceFrom (fields_of l.header) l.name l.place
