use Rattle.std.proofs.Common.{◌+◌}
use Rattle.cpu_sim.specs.Choices.{all_cpus_at}
use Rattle.cpu_sim.proofs.simulation.Simulation.serve.Given as goal

abbrev pub ghost-advance : goal.ghost-advance
ghost-advance a = all_cpus_at a.plan.now (a.self.now.time + a.ticks)
