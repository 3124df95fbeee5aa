use Rattle.std.proofs.Common.{arith, ◌∙◌}
use Rattle.virtual_time.proofs.Running.{all_idle, time_few}
use Rattle.cpu_sim.specs.Choices.{all_cpus_at}
use Rattle.cpu_sim.proofs.simulation.Simulation.serve_rest.Goals as goal

pub serve-requires : goal.serve-requires
serve-requires c =
    let p = c.args.plan.now in
    let s = c.loop-self.self in
    let inv = c.loop-self.invariant in
    record {
      simulation = inv.simulation;
      some = (c.in-Some.field-0, c.in-Some.ensures.release, c.in-Some.ensures.held);
      until = record { later = λ k d le kl. absurd (omega (arith, le, kl, inv.released, c.requires.last)) };
      ahead = let few = time_few p (all_cpus_at p s.run.time) s.run inv.simulation.run in omega (arith, few);
    }

pub loop-self-smaller : goal.loop-self-smaller
loop-self-smaller c =
    let few = time_few c.args.plan.now (all_cpus_at c.args.plan.now c.loop-self.self.run.time) c.loop-self.self.run c.loop-self.invariant.simulation.run in
    omega (arith, few, c.in_ok-serve.ensures.later)

pub returns-clause-idle : goal.returns-clause-idle
returns-clause-idle c = all_idle c.args.plan.now (all_cpus_at c.args.plan.now c.loop-self.self.run.time) c.loop-self.self.run c.loop-self.invariant.simulation.run c.in_default.ensures

pub loop-self-preserved : goal.loop-self-preserved
loop-self-preserved c = record {
  simulation = c.in_ok-serve.ensures.simulation;
  released = c.in_ok-serve.ensures.released ∙ c.loop-self.invariant.released;
  keeps = c.in_ok-serve.ensures.keeps ∙ c.loop-self.invariant.keeps;
}
