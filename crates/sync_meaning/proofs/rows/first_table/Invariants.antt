use Rattle.std.proofs.Common.{◌≡◌, map, take}
use Rattle.sync_meaning.specs.FirstRows.{first_rows}
use Rattle.sync_meaning.proofs.rows.first_table.Given as goal

abbrev pub invariant-loop-task : goal.invariant-loop-task
invariant-loop-task l = l.rows ≡ map first_rows (take l.task-index l.tasks)
