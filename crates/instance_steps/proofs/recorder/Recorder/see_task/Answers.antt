use Rattle.std.proofs.Common.{◌≢◌, ◌∙◌, sym}
use Rattle.dbp_plan.specs.Occurrences.{time_of}
use Rattle.instance_steps.specs.Recorders.{plan_in}
use Rattle.instance_steps.proofs.Adding.{on_ok}
use Rattle.instance_steps.proofs.Aimed.{aim_named, see_adds, see_known, see_may, unseen_known}
use Rattle.instance_steps.proofs.recorder.Recorder.see_task.Goals as goal

pub aimed-requires : goal.aimed-requires
aimed-requires c = aim_named c.args.self.now c.args.task c.requires.next

pub make-requires-clause-moves : goal.make-requires-clause-moves
make-requires-clause-moves c = see_may c.args.self.now c.args.task c.requires.next c.args.time c.requires.ended

pub returns-then-aimed-eq0-clause-known : goal.returns-then-aimed-eq0-clause-known
returns-then-aimed-eq0-clause-known c =
    unseen_known c.args.self.now c.args.task c.requires.next c.args.time c.requires.ended (sym c.aimed.ensures ∙ c.if-aimed-eq0.true)

pub returns-clause-known : goal.returns-clause-known
returns-clause-known c = on_ok c.make.result (see_known c.args.self.now c.args.task c.requires.next c.args.time c.requires.ended c.make.new.self) c.make.ensures.step

pub returns-clause-adds : goal.returns-clause-adds
returns-clause-adds c =
    let later : time_of (plan_in c.args.self.now).batches c.args.task 1 ≢ c.args.time = λ same. c.if-aimed-eq0.false (c.aimed.ensures ∙ c.requires.first same) in
    on_ok c.make.result (λ step. see_adds c.args.self.now c.args.task c.requires.next c.args.time c.requires.ended c.make.new.self step later) c.make.ensures.step
