use Rattle.std.proofs.Common.{arith, ◌∙◌}
use Rattle.virtual_time.proofs.Running.{all_idle, time_few}
use Rattle.virtual_sim.specs.Simulations.{one_processor}
use Rattle.virtual_sim.proofs.simulation.Simulation.serve_rest.Goals as goal

pub serve-requires : goal.serve-requires
serve-requires c =
    let p = c.args.plan.now in
    let s = c.loop-task.self in
    let inv = c.loop-task.invariant in
    record {
      simulation = inv.simulation;
      first = c.in-Some.ensures;
      until = record { later = λ k d le kl. absurd (omega (arith, le, kl, inv.released, c.requires.last)) };
      ahead = let few = time_few p (one_processor p s.run.time) s.run inv.simulation.run in omega (arith, few);
    }

pub loop-task-smaller : goal.loop-task-smaller
loop-task-smaller c =
    let few = time_few c.args.plan.now (one_processor c.args.plan.now c.loop-task.self.run.time) c.loop-task.self.run c.loop-task.invariant.simulation.run in
    omega (arith, few, c.in_ok-serve.ensures.later)

pub returns-clause-idle : goal.returns-clause-idle
returns-clause-idle c = all_idle c.args.plan.now (one_processor c.args.plan.now c.loop-task.self.run.time) c.loop-task.self.run c.loop-task.invariant.simulation.run c.in_default.ensures

pub loop-task-preserved : goal.loop-task-preserved
loop-task-preserved c = record {
  simulation = c.in_ok-serve.ensures.simulation;
  released = c.in_ok-serve.ensures.released ∙ c.loop-task.invariant.released;
  keeps = c.in_ok-serve.ensures.keeps ∙ c.loop-task.invariant.keeps;
}
