-- Rows that are written in place.
use Rattle.std.specs.Prelude.{ℕ, pos, ◌*◌, ◌++◌, length, map, replicate}
use Rattle.dbp_plan.specs.declared.diagram.Task.{Task}
use Rattle.dbp_plan.specs.declared.table.TaskRows.{TaskRows}

-- the row of the task's first values, and as many rows of zeros
abbrev pub first_and_zeros : Task → ℕ → TaskRows
first_and_zeros task rows = record { ports = length task.outs; words = map (λ o. o.first) task.outs ++ replicate (rows * length task.outs) (pos 0) }
