use Rattle.virtual_sim.specs.Simulations.{one_processor}
use Rattle.virtual_sim.proofs.simulation.Simulation.release.Given as goal

abbrev pub ghost-overrun : goal.ghost-overrun
ghost-overrun a = one_processor a.plan.now a.self.now.time

abbrev pub ghost-renew : goal.ghost-renew
ghost-renew a = one_processor a.plan.now a.self.now.time
