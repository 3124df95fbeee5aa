-- The rows of a table.
use Rattle.std.specs.Prelude.{◌≡◌, ℕ, ℤ, ◌+◌, ◌*◌, ◌<◌, ◌≤◌, List, [], length, slice_get, slice_range, Some}
use Rattle.std.specs.Option.{option_map_or}
use Rattle.dbp_plan.specs.declared.diagram.Task.{Task}
use Rattle.dbp_plan.specs.declared.schedule.Batch.{Batch}
use Rattle.dbp_plan.specs.declared.table.Table.{Table}
use Rattle.dbp_plan.specs.declared.table.TaskRows.{TaskRows}
use Rattle.dbp_plan.specs.Occurrences.{times_of}

-- row n of the task's rows
abbrev pub row_at : TaskRows → ℕ → List ℤ
row_at rows n = slice_range rows.words (n * rows.ports) ((n + 1) * rows.ports)

-- row n of the task; empty if the table has no such task
abbrev pub table_row : Table → ℕ → ℕ → List ℤ
table_row table task n = option_map_or (λ rows. row_at rows n) (slice_get table.tasks task) []

-- the words are row n of the task
pub record IsRow (table : Table) (task n : ℕ) (row : List ℤ) : Type 0 where
  pub rows : TaskRows
  pub has_rows : slice_get table.tasks task ≡ Some rows
  pub there : (n + 1) * rows.ports ≤ length rows.words
  pub is : row ≡ row_at rows n

-- the task has a row n
abbrev pub HasRow : Table → ℕ → ℕ → Type 0
HasRow table task n = (row : List ℤ) × IsRow table task n row

-- the table has the row of each occurrence of the tasks, and the rows of their first values
abbrev pub HasRows : List Task → List Batch → Table → Type 0
HasRows tasks batches table = (i n : ℕ) → i < length tasks → n ≤ length (times_of batches i) → HasRow table i n

-- the rows are those of a task with so many outs and occurrences, and nothing else
pub record HasRowsOf (outs occurrences : ℕ) (rows : TaskRows) : Type 0 where
  pub ports : rows.ports ≡ outs
  pub size : length rows.words ≡ (occurrences + 1) * outs

-- the table has these rows and nothing else
pub record HasAllRows (tasks : List Task) (batches : List Batch) (table : Table) : Type 0 where
  pub size : length table.tasks ≡ length tasks
  pub each : (i : ℕ) (t : Task) (rows : TaskRows) → slice_get tasks i ≡ Some t → slice_get table.tasks i ≡ Some rows → HasRowsOf (length t.outs) (length (times_of batches i)) rows
