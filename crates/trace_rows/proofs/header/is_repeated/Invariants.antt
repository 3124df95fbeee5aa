use Rattle.std.proofs.Common.{◌≡◌, false}
use Rattle.csv.specs.Records.{fields_of}
use Rattle.dbp_plan.specs.NameLists.{is_among}
use Rattle.trace_rows.proofs.HeaderColumns.{columns_before}
use Rattle.trace_rows.proofs.header.is_repeated.Given as goal

abbrev pub invariant-loop-earlier : goal.invariant-loop-earlier
invariant-loop-earlier l = is_among (columns_before (fields_of l.header) l.earlier) l.name ≡ false
