use Rattle.virtual_sim.specs.Simulations.{one_processor}
use Rattle.virtual_sim.proofs.simulation.Simulation.new.Given as goal

abbrev pub ghost-new : goal.ghost-new
ghost-new a = one_processor a.plan.now 0
