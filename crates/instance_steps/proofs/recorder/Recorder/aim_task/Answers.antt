use Rattle.std.proofs.Common.{arith}
use Rattle.instance_steps.specs.Recorders.{plan_in}
use Rattle.instance_steps.proofs.Adding.{on_ok, steps_long}
use Rattle.instance_steps.proofs.Aimed.{aim_adds, aim_allowed, aim_keeps, aim_next, seen_few}
use Rattle.instance_steps.proofs.recorder.Recorder.aim_task.Goals as goal

pub least_aim-slot-requires-clause-next : goal.least_aim-slot-requires-clause-next
least_aim-slot-requires-clause-next c = aim_next c.args.self.now c.args.task c.requires.next c.see_task.new.self c.args.time c.in_ok-see_task.ensures.adds

pub make-requires-clause-moves : goal.make-requires-clause-moves
make-requires-clause-moves c =
    aim_allowed c.args.self.now c.args.task c.requires.next c.see_task.new.self c.args.time c.in_ok-see_task.ensures.adds c.least_aim-slot.result c.least_aim-slot.ensures

pub make-requires-clause-room : goal.make-requires-clause-room
make-requires-clause-room c = omega (arith, steps_long _ _ _ c.in_ok-see_task.ensures.adds.steps, seen_few (plan_in c.args.self.now) c.args.time c.args.task)

pub returns-clause-adds : goal.returns-clause-adds
returns-clause-adds c =
    on_ok c.make.result
    (aim_adds c.args.self.now c.args.task c.requires.next c.see_task.new.self c.args.time c.in_ok-see_task.ensures.adds c.least_aim-slot.result c.least_aim-slot.ensures c.make.new.self)
    c.make.ensures.step

pub returns-clause-others : goal.returns-clause-others
returns-clause-others c =
    on_ok c.make.result
    (λ step. aim_keeps c.args.self.now c.args.task c.requires.next c.see_task.new.self c.args.time c.in_ok-see_task.ensures.adds c.least_aim-slot.result c.least_aim-slot.ensures c.make.new.self step c.in_ok-see_task.ensures.others)
    c.make.ensures.step
