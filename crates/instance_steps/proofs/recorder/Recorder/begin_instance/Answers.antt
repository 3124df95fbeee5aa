use Rattle.std.proofs.Common.{arith}
use Rattle.instance_steps.proofs.Adding.{on_ok, steps_longer}
use Rattle.instance_steps.proofs.Begins.{begin_whole, start_links, start_may}
use Rattle.instance_steps.proofs.recorder.Recorder.begin_instance.Goals as goal

pub make-requires-clause-moves : goal.make-requires-clause-moves
make-requires-clause-moves c = start_may c.args.self.now c.args.task c.requires.task c.requires.free c.requires.idle c.requires.gate

pub hear_orders-requires-clause-room : goal.hear_orders-requires-clause-room
hear_orders-requires-clause-room c =
    let links = start_links c.args.self.now c.args.task c.requires.task c.requires.free c.requires.idle c.requires.gate c.make.new.self c.in_ok-make.ensures.step in
    omega (arith, steps_longer _ _ _ c.in_ok-make.ensures.step, links, c.requires.room)

pub returns-clause-piece : goal.returns-clause-piece
returns-clause-piece c =
    on_ok c.hear_orders.result
    (λ hears. begin_whole c.args.self.now c.args.task c.requires.task c.requires.free c.requires.idle c.requires.gate c.make.new.self c.in_ok-make.ensures.step c.hear_orders.new.self hears)
    c.hear_orders.ensures.piece
