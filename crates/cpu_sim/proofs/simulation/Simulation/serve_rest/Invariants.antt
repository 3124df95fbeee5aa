use Rattle.std.specs.Prelude.{is_some}
use Rattle.std.proofs.Common.{◌≡◌, ◌-◌}
use Rattle.instance_steps.specs.Recorders.{record_in}
use Rattle.cpu_sim.specs.Simulations.{IsSimulation}
use Rattle.cpu_sim.proofs.simulation.Simulation.serve_rest.Given as goal

abbrev pub invariant-loop-self : goal.invariant-loop-self
invariant-loop-self l = record {
  simulation : IsSimulation l.plan l.self;
  released : l.self.run.released ≡ l.initial.self.run.released;
  keeps : is_some (record_in l.self.recorder) ≡ is_some (record_in l.initial.self.recorder);
}

abbrev pub decreases-loop-self : goal.decreases-loop-self
decreases-loop-self l = 3300000000000000 - l.self.run.time
