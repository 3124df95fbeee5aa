use Rattle.std.proofs.Common.{◌<◌, ◌≤◌}
use Rattle.cpu_sim.specs.Simulations.{FitsBelow}
use Rattle.cpu_sim.proofs.simulation.Simulation.ticks_to_next.Given as goal

abbrev pub invariant-loop-cpu : goal.invariant-loop-cpu
invariant-loop-cpu l = record {
  some : 0 < l.ticks;
  most : l.ticks ≤ l.most;
  below : FitsBelow l.plan l.self.run l.chosen l.cpu l.ticks;
}
