use Rattle.std.proofs.Common.{◌<◌, ◌∙◌, refl, ap, arith, length}
use Rattle.dbp_plan.specs.declared.diagram.Task.{Task}
use Rattle.instance_steps.proofs.Adding.{steps_longer}
use Rattle.instance_steps.proofs.Ends.{outs_of, put_may, put_more, puts_none}
use Rattle.instance_steps.proofs.recorder.Recorder.put_outs.Goals as goal

pub loop-port-init : goal.loop-port-init
loop-port-init c = record {
  piece = puts_none c.args.self.now c.args.task c.requires.task c.requires.free c.requires.place;
  size = omega arith;
  table = refl;
}

pub make-requires-clause-moves : goal.make-requires-clause-moves
make-requires-clause-moves c =
    let below : c.loop-port.port < outs_of c.args.self.now c.args.task = omega (arith, ap (λ (t : Task). length t.outs) c.declared.ensures) in
    put_may c.args.self.now c.args.task c.requires.task c.requires.free c.loop-port.self c.loop-port.port below c.loop-port.invariant.piece

pub loop-port-preserved : goal.loop-port-preserved
loop-port-preserved c =
    let below : c.loop-port.port < outs_of c.args.self.now c.args.task = omega (arith, ap (λ (t : Task). length t.outs) c.declared.ensures) in
    record {
      piece = put_more c.args.self.now c.args.task c.requires.task c.requires.free c.loop-port.self c.loop-port.port below c.loop-port.invariant.piece c.make.new.self c.in_ok-make.ensures.step;
      size = omega (arith, steps_longer _ _ _ c.in_ok-make.ensures.step);
      table = c.in_ok-make.ensures.table ∙ c.loop-port.invariant.table;
    }
