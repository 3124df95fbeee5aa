use Rattle.std.proofs.Common.{arith, ◌∙◌}
use Rattle.cpu_sim.specs.Simulations.{IsFinished}
use Rattle.cpu_sim.proofs.simulation.finished_simulation.Goals as goal

pub returns : goal.returns
returns c =
    let e = c.in-Ok-serve_rest.ensures in
    let finished : IsFinished c.deref-plan.result.now c.args.keeping c.serve_rest.new.self = record {
      simulation = e.simulation;
      released = omega (arith, e.released, c.loop.invariant.released, c.loop-test.false, c.loop.auto.counter-end, c.len-end.ensures);
      idle = e.idle;
      keeps = e.keeps ∙ c.loop.invariant.keeps;
    } in
    rw c.deref-plan.ensures at finished
