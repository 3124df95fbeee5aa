use Rattle.std.proofs.Common.{◌≡◌, ◌<◌, None, length, ◌∙◌, rules}
use Rattle.dia_check.specs.Faults.{part_fault}
use Rattle.dbp_plan.proofs.FirstFaults.{first-later}
use Rattle.dia_check.proofs.first_line.body_fault.Goals as goal

pub loop-place-preserved : goal.loop-place-preserved
loop-place-preserved c =
    let items = c.items-parts.ensures.value in
    let parts = c.args.task.now.parts in
    let below : c.loop-place.place < length parts = search rules in
    let none : None ≡ c.part_fault.result = search rules in
    first-later (part_fault c.args.body.now c.args.task.now) parts c.args.lines.now c.loop-place.place c.index-parts-place.result c.loop-place.invariant below c.requires (rw items at c.index-parts-place.is) (none ∙ rw items at c.part_fault.ensures)
