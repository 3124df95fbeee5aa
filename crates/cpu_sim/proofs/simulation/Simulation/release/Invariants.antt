use Rattle.cpu_sim.specs.Choices.{all_cpus_at}
use Rattle.cpu_sim.proofs.simulation.Simulation.release.Given as goal

abbrev pub ghost-overrun : goal.ghost-overrun
ghost-overrun a = all_cpus_at a.plan.now a.self.now.time

abbrev pub ghost-renew : goal.ghost-renew
ghost-renew a = all_cpus_at a.plan.now a.self.now.time
