use Rattle.std.proofs.Common.{◌≡◌, map, take, drop}
use Rattle.csv.specs.Records.{fields_of}
use Rattle.dbp_plan.specs.NameLists.{index_of}
use Rattle.trace_rows.proofs.values.input_columns.Given as goal

abbrev pub invariant-loop-input : goal.invariant-loop-input
invariant-loop-input l = l.columns.items ≡ map (λ input. index_of (drop 1 (fields_of l.header)) input.name) (take l.input-index l.inputs)
