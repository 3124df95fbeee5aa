use Rattle.std.proofs.Common.{◌≡◌, map, take, drop}
use Rattle.csv.specs.Records.{fields_of}
use Rattle.dbp_plan.specs.NameLists.{index_of}
use Rattle.trace_rows.proofs.values.event_columns.Given as goal

abbrev pub invariant-loop-event : goal.invariant-loop-event
invariant-loop-event l = l.columns.items ≡ map (index_of (drop 1 (fields_of l.header))) (take l.event-index l.events)
