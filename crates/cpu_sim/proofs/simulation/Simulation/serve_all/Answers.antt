use Rattle.std.proofs.Common.{◌≡◌, ◌+◌, ℕ, sym, subst, arith}
use Rattle.cpu_sim.specs.Record.{cpu_count}
use Rattle.cpu_sim.specs.Simulations.{HasServed}
use Rattle.cpu_sim.proofs.ServedStages.{skips_serving, starts_serving}
use Rattle.cpu_sim.proofs.simulation.Simulation.serve_all.Goals as goal
use Rattle.cpu_sim.proofs.simulation.Simulation.serve_all.Goals.{in-Some+in_ok-serve_task, in_default}

pub loop-cpu-init : goal.loop-cpu-init
loop-cpu-init c = λ first h jump. starts_serving c.args.plan.now first c.args.chosen.now c.args.ticks c.args.self.now h jump

pub serve_task-requires : goal.serve_task-requires
serve_task-requires c =
    let (first, h, jump) = c.requires.stepped in
    record {
      next = record {
        first = first;
        choices = c.args.chosen.now;
        cpu = c.loop-cpu.cpu;
        served = c.loop-cpu.invariant first h jump;
        next = record { small = c.loop-cpu-test.true; there = c.in-Some.is };
      };
    }

pub loop-cpu-preserved : goal.loop-cpu-preserved
loop-cpu-preserved c = λ first h jump.
    let p = c.args.plan.now in
    let chosen = c.args.chosen.now in
    let d = c.args.ticks in
    let now = c.loop-cpu.invariant first h jump in
    elim c.match-chosen-cpu.branch [
      | in-Some+in_ok-serve_task w ↦ subst (HasServed p first chosen d (c.loop-cpu.cpu + 1)) (sym w.self-is) (w.in_ok-serve_task.ensures.served first chosen c.loop-cpu.cpu now (record { small = c.loop-cpu-test.true; there = w.in-Some.is }))
      | in_default w ↦ subst (HasServed p first chosen d (c.loop-cpu.cpu + 1)) (sym w.self-is) (skips_serving p first chosen d c.loop-cpu.cpu c.loop-cpu.self now c.loop-cpu-test.true w.in_default.is)
    ]

pub returns : goal.returns
returns c = record {
  served = λ first h jump.
      let last : c.loop-cpu.cpu ≡ cpu_count = omega (arith, c.loop-cpu-test.false, c.loop-cpu.auto.cpu-end) in
      subst (λ (k : ℕ). HasServed c.args.plan.now first c.args.chosen.now c.args.ticks k c.loop-cpu.self) last (c.loop-cpu.invariant first h jump);
}
