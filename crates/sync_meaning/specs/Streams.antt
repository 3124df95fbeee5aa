-- The meaning of a task's first instances, and tables that grow.
use Rattle.std.specs.Prelude.{◌≡◌, ℕ, ℤ, ◌+◌, ◌<◌, List, map, slice_get, Some}
use Rattle.dbp_plan.specs.declared.diagram.Diagram.{Diagram}
use Rattle.dbp_plan.specs.declared.diagram.Task.{Task}
use Rattle.dbp_plan.specs.declared.schedule.Batch.{Batch}
use Rattle.dbp_plan.specs.declared.schedule.Sample.{Sample}
use Rattle.dbp_plan.specs.declared.table.Table.{Table}
use Rattle.dbp_plan.specs.Occurrences.{times_of}
use Rattle.dbp_plan.specs.Table.{IsRow}
use Rattle.sync_meaning.specs.Meaning.{IsEnv, AreStatesAfter, outs_in}

-- the equations of task i hold for its first so many instances, after which its states are these
pub record IsStreamTo (d : Diagram) (samples : List Sample) (batches : List Batch) (table : Table) (i : ℕ) (task : Task) (count : ℕ) (after : List ℤ) : Type 0 where
  pub states : ℕ → List ℤ
  pub envs : ℕ → List ℤ
  pub first_states : states 0 ≡ map (λ s. s.first) task.states
  pub first_row : IsRow table i 0 (map (λ o. o.first) task.outs)
  pub env : (n time : ℕ) → n < count → slice_get (times_of batches i) n ≡ Some time → IsEnv d samples batches table task time (states n) (envs n)
  pub row : (n : ℕ) → n < count → IsRow table i (n + 1) (outs_in task (envs n))
  pub next : (n : ℕ) → n < count → AreStatesAfter task (envs n) (states n) (states (n + 1))
  pub after_states : states count ≡ after

-- the other table has the rows of the table, and maybe more
abbrev pub HasRowsOfTable : Table → Table → Type 0
HasRowsOfTable table other = (i n : ℕ) (row : List ℤ) → IsRow table i n row → IsRow other i n row
