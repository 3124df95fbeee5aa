use Rattle.std.specs.Prelude.{is_some}
use Rattle.std.proofs.Common.{◌≡◌, ◌≤◌, ◌-◌}
use Rattle.instance_steps.specs.Recorders.{record_in}
use Rattle.instance_steps.specs.Releases.{batch_at}
use Rattle.cpu_sim.specs.Simulations.{IsSimulation}
use Rattle.cpu_sim.specs.Choices.{all_cpus_at}
use Rattle.cpu_sim.proofs.simulation.Simulation.serve_until_batch.Given as goal

abbrev pub invariant-loop-self : goal.invariant-loop-self
invariant-loop-self l = record {
  simulation : IsSimulation l.plan l.self;
  limit : l.limit ≡ (batch_at l.plan l.self.run.released).time;
  released : l.self.run.released ≡ l.initial.self.run.released;
  in_time : l.self.run.time ≤ l.limit;
  keeps : is_some (record_in l.self.recorder) ≡ is_some (record_in l.initial.self.recorder);
}

abbrev pub decreases-loop-self : goal.decreases-loop-self
decreases-loop-self l = l.limit - l.self.run.time

abbrev pub ghost-wait : goal.ghost-wait
ghost-wait a = all_cpus_at a.plan.now a.self.now.time
