use Rattle.cpu_sim.specs.Simulations.{HasStepped}
use Rattle.cpu_sim.proofs.simulation.Simulation.make_all_steps.Given as goal

abbrev pub invariant-loop-cpu : goal.invariant-loop-cpu
invariant-loop-cpu l = HasStepped l.plan l.initial.self l.chosen l.cpu l.self
