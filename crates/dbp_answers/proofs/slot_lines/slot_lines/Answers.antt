use Rattle.std.proofs.Common.{◌≡◌, ℕ, ◌<◌, ◌++◌, List, length, get_or, ap, sym, ◌∙◌, arith}
use Rattle.dbp_slots.specs.Slots.{counts_of}
use Rattle.dbp_answers.specs.SlotLines.{slot_line}
use Rattle.dbp_answers.proofs.TaskLineLaws.{lines_all, lines_more}
use Rattle.dbp_answers.proofs.slot_lines.slot_lines.Goals as goal

pub loop-i-preserved : goal.loop-i-preserved
loop-i-preserved c =
    let d = c.args.diagram.now in
    let below : c.loop-i.i < length d.tasks = rw c.items-task-items.ensures.value at c.loop-i-test.true in
    let is : c.task-item.result ≡ get_or d.tasks c.loop-i.i c.task-item.result = rw c.items-task-items.ensures.value at c.task-item.is in
    c.in_ok-push_line.ensures
    ∙ ap (λ (text : List ℕ). text ++ slot_line c.bytes.result.now c.counts.result) c.loop-i.invariant
    ∙ rw (c.bytes.ensures.value, c.counts.ensures) (sym (lines_more (λ i task. slot_line task.name (counts_of d i)) d c.loop-i.i c.task-item.result below is))

pub returns : goal.returns
returns c = c.loop-i.invariant ∙ lines_all (λ i task. slot_line task.name (counts_of c.args.diagram.now i)) c.args.diagram.now c.loop-i.i (omega (arith, ap length c.items-task-items.ensures.value))
