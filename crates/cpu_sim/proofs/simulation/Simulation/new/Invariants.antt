use Rattle.cpu_sim.specs.Choices.{all_cpus_at}
use Rattle.cpu_sim.proofs.simulation.Simulation.new.Given as goal

abbrev pub ghost-new : goal.ghost-new
ghost-new a = all_cpus_at a.plan.now 0
