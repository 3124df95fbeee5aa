use Rattle.std.proofs.Common.{arith}
use Rattle.instance_steps.proofs.Adding.{on_ok, steps_long, steps_longer}
use Rattle.instance_steps.proofs.Ends.{done_may, end_may, end_whole, length-put_events, outs_of, shut_may, shut_outs}
use Rattle.instance_steps.proofs.recorder.Recorder.make_end.Goals as goal

pub make-requires-clause-moves : goal.make-requires-clause-moves
make-requires-clause-moves c = shut_may c.args.self.now c.args.task c.requires.task c.requires.free c.requires.place

pub put_outs-requires-clause-room : goal.put_outs-requires-clause-room
put_outs-requires-clause-room c =
    let outs = shut_outs c.args.self.now c.args.task c.requires.task c.requires.free c.requires.place c.make.new.self c.in_ok-make.ensures.step in
    omega (arith, steps_longer _ _ _ c.in_ok-make.ensures.step, outs, c.requires.room)

pub make-requires-2-clause-moves : goal.make-requires-2-clause-moves
make-requires-2-clause-moves c =
    done_may c.args.self.now c.args.task c.requires.task c.requires.free c.requires.place c.make.new.self c.in_ok-make.ensures.step c.put_outs.new.self c.in_ok-put_outs.ensures.piece

pub make-requires-2-clause-room : goal.make-requires-2-clause-room
make-requires-2-clause-room c =
    omega
    (arith, steps_longer _ _ _ c.in_ok-make.ensures.step, steps_long _ _ _ c.in_ok-put_outs.ensures.piece.steps, length-put_events c.args.task (outs_of c.make.new.self c.args.task), shut_outs c.args.self.now c.args.task c.requires.task c.requires.free c.requires.place c.make.new.self c.in_ok-make.ensures.step)

pub make-requires-3-clause-moves : goal.make-requires-3-clause-moves
make-requires-3-clause-moves c =
    end_may c.args.self.now c.args.task c.requires.task c.requires.free c.requires.place c.make.new.self c.in_ok-make.ensures.step c.put_outs.new.self c.in_ok-put_outs.ensures.piece c.make-2.new.self c.in_ok-make-2.ensures.step

pub make-requires-3-clause-room : goal.make-requires-3-clause-room
make-requires-3-clause-room c =
    omega
    (arith, steps_longer _ _ _ c.in_ok-make.ensures.step, steps_longer _ _ _ c.in_ok-make-2.ensures.step, steps_long _ _ _ c.in_ok-put_outs.ensures.piece.steps, length-put_events c.args.task (outs_of c.make.new.self c.args.task), shut_outs c.args.self.now c.args.task c.requires.task c.requires.free c.requires.place c.make.new.self c.in_ok-make.ensures.step)

pub returns-clause-piece : goal.returns-clause-piece
returns-clause-piece c =
    on_ok c.make-3.result
    (λ step. end_whole c.args.self.now c.args.task c.requires.task c.requires.free c.requires.place c.make.new.self c.in_ok-make.ensures.step c.put_outs.new.self c.in_ok-put_outs.ensures.piece c.make-2.new.self c.in_ok-make-2.ensures.step c.make-3.new.self step)
    c.make-3.ensures.step
