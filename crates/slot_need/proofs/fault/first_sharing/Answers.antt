use Rattle.std.proofs.Common.{◌∙◌, sym, arith}
use Rattle.slot_need.specs.Faults.{is_sharing}
use Rattle.slot_need.proofs.Ranges.{found-first, none-found}
use Rattle.slot_need.proofs.fault.first_sharing.Goals as goal

pub returns-then-is_sharing : goal.returns-then-is_sharing
returns-then-is_sharing c =
    sym (found-first (is_sharing c.args.diagram.now) _ c.loop-task.task (omega (arith, c.loop-task-test.true, c.len-task-end.ensures)) (sym c.is_sharing.ensures ∙ c.if-is_sharing.true) c.loop-task.invariant)

pub returns : goal.returns
returns c =
    sym (none-found (is_sharing c.args.diagram.now) _ (λ j less. c.loop-task.invariant j (omega (arith, less, c.loop-task.auto.task-end, c.loop-task-test.false, c.len-task-end.ensures))))
