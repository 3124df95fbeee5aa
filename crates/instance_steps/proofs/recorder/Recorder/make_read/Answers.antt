use Rattle.std.proofs.Common.{arith}
use Rattle.instance_steps.proofs.Adding.{on_ok, steps_longer}
use Rattle.instance_steps.proofs.MadeReads.{look_may, take_may, take_whole}
use Rattle.instance_steps.proofs.recorder.Recorder.make_read.Goals as goal

pub make-requires-clause-moves : goal.make-requires-clause-moves
make-requires-clause-moves c = look_may c.args.self.now c.args.task c.args.read c.requires.task c.requires.read c.requires.free c.requires.place c.requires.row

pub make-requires-2-clause-moves : goal.make-requires-2-clause-moves
make-requires-2-clause-moves c = take_may c.args.self.now c.args.task c.args.read c.requires.task c.requires.read c.requires.free c.requires.place c.requires.row c.make.new.self c.in_ok-make.ensures.step

pub make-requires-2-clause-room : goal.make-requires-2-clause-room
make-requires-2-clause-room c = omega (arith, steps_longer _ _ _ c.in_ok-make.ensures.step, c.requires.room)

pub returns-clause-piece : goal.returns-clause-piece
returns-clause-piece c =
    on_ok c.make-2.result
    (λ step. take_whole c.args.self.now c.args.task c.args.read c.requires.task c.requires.read c.requires.free c.requires.place c.requires.row c.make.new.self c.in_ok-make.ensures.step c.make-2.new.self step)
    c.make-2.ensures.step
