use Rattle.std.proofs.Common.{◌+◌}
use Rattle.virtual_sim.specs.Simulations.{one_processor}
use Rattle.virtual_sim.proofs.simulation.Simulation.serve.Given as goal

abbrev pub ghost-pause : goal.ghost-pause
ghost-pause a = one_processor a.plan.now a.self.now.time

abbrev pub ghost-advance : goal.ghost-advance
ghost-advance a = one_processor a.plan.now (a.self.now.time + a.ticks)

abbrev pub ghost-finish : goal.ghost-finish
ghost-finish a = one_processor a.plan.now a.self.now.time
