use Rattle.std.proofs.Common.{◌≡◌, ◌+◌, ◌<◌, ◌∙◌, length, refl, ap, arith}
use Rattle.dbp_rules.specs.declared.wiring.TaskWiring.{TaskWiring}
use Rattle.instance_steps.proofs.Adding.{steps_longer}
use Rattle.instance_steps.proofs.Begins.{hear_may, hear_more, hears_all, hears_none, links_in, links_of}
use Rattle.instance_steps.proofs.recorder.Recorder.hear_orders.Goals as goal

pub loop-init : goal.loop-init
loop-init c = record {
  piece = hears_none c.args.self.now c.args.task c.requires.task c.requires.free c.requires.place;
  size = omega arith;
  table = refl;
}

pub make-requires-clause-moves : goal.make-requires-clause-moves
make-requires-clause-moves c =
    let size : c.len-end.result ≡ links_of c.args.self.now c.args.task =
    c.len-end.ensures ∙ ap (λ (t : TaskWiring). length t.links) c.task_wiring.ensures ∙ links_in c.args.self.now c.args.task c.requires.task in
    let below : c.loop.counter < 1 + links_of c.args.self.now c.args.task = omega (arith, size, c.loop-test.true) in
    hear_may c.args.self.now c.args.task c.requires.task c.requires.free c.loop.self c.loop.counter below c.loop.invariant.piece

pub make-requires-clause-room : goal.make-requires-clause-room
make-requires-clause-room c =
    let size : c.len-end.result ≡ links_of c.args.self.now c.args.task =
    c.len-end.ensures ∙ ap (λ (t : TaskWiring). length t.links) c.task_wiring.ensures ∙ links_in c.args.self.now c.args.task c.requires.task in
    omega (arith, size, c.loop-test.true, c.loop.invariant.size, c.requires.room)

pub loop-preserved : goal.loop-preserved
loop-preserved c =
    let size : c.len-end.result ≡ links_of c.args.self.now c.args.task =
    c.len-end.ensures ∙ ap (λ (t : TaskWiring). length t.links) c.task_wiring.ensures ∙ links_in c.args.self.now c.args.task c.requires.task in
    let below : c.loop.counter < 1 + links_of c.args.self.now c.args.task = omega (arith, size, c.loop-test.true) in
    record {
      piece = hear_more c.args.self.now c.args.task c.requires.task c.requires.free c.loop.self c.loop.counter below c.loop.invariant.piece c.make.new.self c.in_ok-make.ensures.step;
      size = omega (arith, steps_longer _ _ _ c.in_ok-make.ensures.step, c.loop.invariant.size);
      table = c.in_ok-make.ensures.table ∙ c.loop.invariant.table;
    }

pub returns-clause-piece : goal.returns-clause-piece
returns-clause-piece c =
    let size : c.len-end.result ≡ links_of c.args.self.now c.args.task =
    c.len-end.ensures ∙ ap (λ (t : TaskWiring). length t.links) c.task_wiring.ensures ∙ links_in c.args.self.now c.args.task c.requires.task in
    let all : c.loop.counter ≡ 1 + links_of c.args.self.now c.args.task = omega (arith, size, c.loop-test.false, c.loop.auto.counter-end) in
    hears_all c.args.self.now c.args.task c.requires.task c.requires.free c.loop.self c.loop.counter all c.loop.invariant.piece
