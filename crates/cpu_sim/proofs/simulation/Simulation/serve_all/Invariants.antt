use Rattle.cpu_sim.specs.Record.{cpu_count}
use Rattle.cpu_sim.specs.Simulations.{HasServed, HasStepped, IsJump}
use Rattle.cpu_sim.specs.declared.simulation.Simulation.{Simulation}
use Rattle.cpu_sim.proofs.simulation.Simulation.serve_all.Given as goal

abbrev pub invariant-loop-cpu : goal.invariant-loop-cpu
invariant-loop-cpu l = (first : Simulation) → HasStepped l.plan first l.chosen cpu_count l.initial.self → IsJump l.plan first.run l.chosen l.ticks → HasServed l.plan first l.chosen l.ticks l.cpu l.self
