use Rattle.std.specs.Prelude.{is_some}
use Rattle.std.proofs.Common.{◌≡◌}
use Rattle.instance_steps.specs.Recorders.{first_record, record_in}
use Rattle.cpu_sim.specs.Simulations.{IsSimulation}
use Rattle.cpu_sim.proofs.simulation.finished_simulation.Given as goal

abbrev pub invariant-loop : goal.invariant-loop
invariant-loop l = record {
  simulation : IsSimulation l.plan l.simulation;
  released : l.simulation.run.released ≡ l.counter;
  keeps : is_some (record_in l.simulation.recorder) ≡ is_some (first_record l.fn.keeping);
}
