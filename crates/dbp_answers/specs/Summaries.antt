-- What a soak writes of the document that it made.
use Rattle.std.specs.Prelude.{ℕ, ℤ, ◌+◌, ◌%◌, ◌^◌, List, [], ◌∷◌, ◌++◌, codes, drop, fold, length}
use Rattle.std.specs.Fmt.{decimal}
use Rattle.dbp_plan.specs.Lookups.{declared_task}
use Rattle.dbp_plan.specs.Occurrences.{occurrence_count}
use Rattle.dbp_plan.specs.declared.plan.Plan.{Plan}
use Rattle.dbp_plan.specs.declared.table.Table.{Table}
use Rattle.dbp_plan.specs.declared.table.TaskRows.{TaskRows}
use Rattle.dbp_rules.specs.SharedWords.{signed_value}
use Rattle.rank_order.specs.Ends.{IsOverrun, NoOverrun}
use Rattle.rank_order.specs.Instances.{Instance}
use Rattle.rank_order.specs.Service.{left_of}
use Rattle.rank_order.specs.ServiceOf.{service}
use Rattle.sync_meaning.specs.Meaning.{IsMeaning}
use Rattle.dbp_answers.specs.OverrunLines.{overrun_after}

-- a value counts as its word of 64 bits
abbrev pub with_value : ℕ → ℤ → ℕ
with_value total value = (total + signed_value value) % 2 ^ 64

-- with the values of a task's rows from row 1 on
abbrev pub with_rows : ℕ → TaskRows → ℕ
with_rows total rows = fold with_value total (drop rows.ports rows.words)

-- the sum of the values of all rows from row 1 on, modulo 2 ^ 64
abbrev pub total_of : Table → ℕ
total_of table = fold with_rows 0 table.tasks

-- `WORD N`, ended by LF (10); a space is 32
abbrev pub count_line : List ℕ → ℕ → List ℕ
count_line word number = word ++ 32 ∷ decimal number ++ 10 ∷ []

-- what the simulation of the plan comes to: the same table, or an overrun
pub data IsSimulationLine (plan : Plan) : List ℕ → Type 0 where
  same : NoOverrun plan (left_of plan (service plan)) → IsSimulationLine plan (codes "sim same\n")
  overran : (x : Instance) (time : ℕ) → IsOverrun plan (left_of plan (service plan)) time x
      → IsSimulationLine plan (overrun_after (codes "sim overrun ") (declared_task plan x.task).name x.number time)

-- the six lines: tasks, links, occurrences, the total of the meaning's table, its simulation, and its run, which has
-- the same table
abbrev pub summary : Plan → Table → List ℕ → List ℕ
summary plan table simulation =
    count_line (codes "tasks") (length plan.diagram.tasks)
    ++ count_line (codes "links") (length plan.diagram.links)
    ++ count_line (codes "occurrences") (occurrence_count plan.batches)
    ++ count_line (codes "total") (total_of table)
    ++ simulation
    ++ codes "run same\n"

-- such lines of the plan
pub data IsSummary (plan : Plan) : List ℕ → Type 0 where
  of_table : (table : Table) (simulation : List ℕ) → IsMeaning plan.diagram plan.samples plan.batches table → IsSimulationLine plan simulation
      → IsSummary plan (summary plan table simulation)
