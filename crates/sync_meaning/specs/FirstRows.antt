-- The rows that a table has before any instance.
use Rattle.std.specs.Prelude.{length, map}
use Rattle.dbp_plan.specs.declared.diagram.Task.{Task}
use Rattle.dbp_plan.specs.declared.table.TaskRows.{TaskRows}

-- the row of the task's first values
abbrev pub first_rows : Task → TaskRows
first_rows task = record { ports = length task.outs; words = map (λ o. o.first) task.outs }
