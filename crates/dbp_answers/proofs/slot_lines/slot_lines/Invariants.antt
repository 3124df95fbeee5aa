use Rattle.std.proofs.Common.{◌≡◌}
use Rattle.dbp_slots.specs.Slots.{counts_of}
use Rattle.dbp_answers.specs.SlotLines.{slot_line}
use Rattle.dbp_answers.proofs.TaskLineLaws.{lines_to}
use Rattle.dbp_answers.proofs.slot_lines.slot_lines.Given as goal

abbrev pub invariant-loop-i : goal.invariant-loop-i
invariant-loop-i l = l.text.items ≡ lines_to (λ i task. slot_line task.name (counts_of l.diagram i)) l.diagram l.i
