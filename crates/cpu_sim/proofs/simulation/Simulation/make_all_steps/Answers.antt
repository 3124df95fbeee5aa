use Rattle.std.proofs.Common.{◌+◌, sym, subst}
use Rattle.cpu_sim.specs.Simulations.{HasStepped}
use Rattle.cpu_sim.proofs.Stages.{skips_steps, starts_steps}
use Rattle.cpu_sim.proofs.simulation.Simulation.make_all_steps.Goals as goal
use Rattle.cpu_sim.proofs.simulation.Simulation.make_all_steps.Goals.{in-Some+in_ok-make_steps, in_default}

pub loop-cpu-init : goal.loop-cpu-init
loop-cpu-init c = starts_steps c.args.plan.now c.args.self.now c.args.chosen.now c.requires.event

pub make_steps-requires : goal.make_steps-requires
make_steps-requires c = record {
  next = record {
    first = c.args.self.now;
    choices = c.args.chosen.now;
    cpu = c.loop-cpu.cpu;
    stepped = c.loop-cpu.invariant;
    next = record { small = c.loop-cpu-test.true; there = c.in-Some.is };
  };
}

pub loop-cpu-preserved : goal.loop-cpu-preserved
loop-cpu-preserved c =
    let p = c.args.plan.now in
    let first = c.args.self.now in
    let chosen = c.args.chosen.now in
    elim c.match-chosen-cpu.branch [
      | in-Some+in_ok-make_steps w ↦ subst (HasStepped p first chosen (c.loop-cpu.cpu + 1)) (sym w.self-is) (w.in_ok-make_steps.ensures.stepped first chosen c.loop-cpu.cpu c.loop-cpu.invariant (record { small = c.loop-cpu-test.true; there = w.in-Some.is }))
      | in_default w ↦ subst (HasStepped p first chosen (c.loop-cpu.cpu + 1)) (sym w.self-is) (skips_steps p first chosen c.loop-cpu.cpu c.loop-cpu.self c.loop-cpu.invariant c.loop-cpu-test.true w.in_default.is)
    ]
