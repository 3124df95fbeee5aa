-- A table with all rows has the row of each occurrence.
use Rattle.std.proofs.Common.{◌+◌, ◌*◌, ◌≤◌, List, length, arith, refl}
use Rattle.std.proofs.Math.Nat.{mul-le-mul_right}
use Rattle.dbp_plan.specs.declared.diagram.Task.{Task}
use Rattle.dbp_plan.specs.declared.schedule.Batch.{Batch}
use Rattle.dbp_plan.specs.declared.table.Table.{Table}
use Rattle.dbp_plan.specs.Table.{HasAllRows, HasRows, row_at}
use Rattle.dbp_plan.specs.ListItems.{at_place}

pub has_rows : (tasks : List Task) (batches : List Batch) (table : Table) → HasAllRows tasks batches table → HasRows tasks batches table
has_rows tasks batches table all i n fits few =
    let (t, is_task) = at_place tasks i fits in
    let (rows, is_rows) = at_place table.tasks i (rw all.size fits) in
    let has = all.each i t rows is_task is_rows in
    let room : (n + 1) * rows.ports ≤ length rows.words = rw (has.size, has.ports) (mul-le-mul_right (length t.outs) (omega arith)) in
    (row_at rows n, record { rows = rows; has_rows = is_rows; there = room; is = refl })
