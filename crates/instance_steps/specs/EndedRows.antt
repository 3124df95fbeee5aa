-- The rows of the instances that have ended.
use Rattle.std.specs.Prelude.{◌≡◌, ℕ, ◌<◌, ◌≤◌, length, slice_get, Some}
use Rattle.dbp_plan.specs.declared.plan.Plan.{Plan}
use Rattle.dbp_plan.specs.declared.table.Table.{Table}
use Rattle.dbp_plan.specs.declared.table.TaskRows.{TaskRows}
use Rattle.dbp_plan.specs.Lookups.{declared_task}
use Rattle.dbp_plan.specs.Table.{HasRowsOf, table_row}
use Rattle.sync_meaning.specs.SomeMeaning.{meaning_of}
use Rattle.dbp_rules.specs.Lookups.{task}
use Rattle.dbp_rules.specs.declared.state.State.{State}

-- the table has the rows of the first values and of the ended instances, as the meaning gives them, and nothing else
pub record HasEndedRows (p : Plan) (s : State) (table : Table) : Type 0 where
  pub size : length table.tasks ≡ length p.diagram.tasks
  pub each : (i : ℕ) (rows : TaskRows) → i < length p.diagram.tasks → slice_get table.tasks i ≡ Some rows
      → HasRowsOf (length (declared_task p i).outs) (task s i).part.ended rows
  pub meant : (i n : ℕ) → i < length p.diagram.tasks → n ≤ (task s i).part.ended → table_row table i n ≡ table_row (meaning_of p) i n
