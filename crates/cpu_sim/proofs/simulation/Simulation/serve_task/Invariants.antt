use Rattle.std.proofs.Common.{get_or}
use Rattle.dbp_plan.specs.Lookups.{declared_task}
use Rattle.cpu_sim.specs.Choices.{cpus_at}
use Rattle.cpu_sim.specs.Simulations.{times_below}
use Rattle.cpu_sim.proofs.simulation.Simulation.serve_task.Given as goal

abbrev pub ghost-pause : goal.ghost-pause
ghost-pause a = cpus_at a.plan.now (times_below (declared_task a.plan.now a.task).cpu a.self.now.time a.ticks)

abbrev pub ghost-finish : goal.ghost-finish
ghost-finish a = cpus_at a.plan.now (times_below (declared_task a.plan.now a.task).cpu a.self.now.time (get_or a.self.now.rest.items a.task 0))
