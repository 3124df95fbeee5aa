use Rattle.std.proofs.Common.{arith, ◌≡◌, ◌-◌, ◌∙◌, ℕ, List, length, get_or, ap, subst}
use Rattle.std.proofs.lemmas.List.{get_or_default, get_or_read}
use Rattle.dbp_plan.specs.declared.diagram.Task.{Task}
use Rattle.dbp_plan.specs.Lookups.{declared_task, no_declared_task}
use Rattle.virtual_time.specs.Events.{IsNextEvent}
use Rattle.cpu_sim.specs.Record.{cpu_count}
use Rattle.cpu_sim.specs.Simulations.{FitsBelow, served_before}
use Rattle.cpu_sim.proofs.ChosenTasks.{chosen_at}
use Rattle.cpu_sim.proofs.JumpTicks.{fits_one, is_jump, none_below, skips_one}
use Rattle.cpu_sim.proofs.simulation.Simulation.ticks_to_next.Goals as goal
use Rattle.cpu_sim.proofs.simulation.Simulation.ticks_to_next.Goals.{in-Some, in_default}

pub loop-cpu-init : goal.loop-cpu-init
loop-cpu-init c = record { some = c.requires.some; most = omega arith; below = none_below c.args.plan.now c.args.self.now.run c.args.chosen.now c.args.most }

pub bounds-items-task : goal.bounds-items-task
bounds-items-task c =
    let p = c.args.plan.now in
    let s = c.args.self.now in
    let i = c.in-Some.task in
    let at = chosen_at p s c.args.chosen.now c.requires.event c.loop-cpu.cpu i (record { small = c.loop-cpu-test.true; there = c.in-Some.is }) in
    omega (arith, at.small, ap (length {A = Task}) c.items.ensures.value)

pub index-requires : goal.index-requires
index-requires c =
    let p = c.args.plan.now in
    let s = c.args.self.now in
    let i = c.in-Some.task in
    let at = chosen_at p s c.args.chosen.now c.requires.event c.loop-cpu.cpu i (record { small = c.loop-cpu-test.true; there = c.in-Some.is }) in
    omega (arith, at.small, c.requires.event.simulation.run.at.rests, s.run.rest.ok.0)

pub overflow_sub-served : goal.overflow_sub-served
overflow_sub-served c =
    let p = c.args.plan.now in
    let s = c.args.self.now in
    let i = c.in-Some.task in
    let at = chosen_at p s c.args.chosen.now c.requires.event c.loop-cpu.cpu i (record { small = c.loop-cpu-test.true; there = c.in-Some.is }) in
    let body = c.index-items-task.result in
    let own : body ≡ declared_task p i = c.index-items-task.is ∙ ap (λ (l : List Task). get_or l i body) c.items.ensures.value ∙ get_or_default p.diagram.tasks i body no_declared_task at.small in
    let rest : c.index.result.now ≡ get_or s.run.rest.items i 0 = get_or_read s.run.rest.items i c.index.result.now (omega (arith, at.small, c.requires.event.simulation.run.at.rests)) c.index.ensures 0 in
    omega (arith, at.within, rest, ap (λ (t : Task). t.cost) own)

pub ticks_to_event-requires : goal.ticks_to_event-requires
ticks_to_event-requires c =
    let p = c.args.plan.now in
    let s = c.args.self.now in
    let i = c.in-Some.task in
    let at = chosen_at p s c.args.chosen.now c.requires.event c.loop-cpu.cpu i (record { small = c.loop-cpu-test.true; there = c.in-Some.is }) in
    let body = c.index-items-task.result in
    let own : body ≡ declared_task p i = c.index-items-task.is ∙ ap (λ (l : List Task). get_or l i body) c.items.ensures.value ∙ get_or_default p.diagram.tasks i body no_declared_task at.small in
    let rest : c.index.result.now ≡ get_or s.run.rest.items i 0 = get_or_read s.run.rest.items i c.index.result.now (omega (arith, at.small, c.requires.event.simulation.run.at.rests)) c.index.ensures 0 in
    omega (arith, at.within, at.some, rest, ap (λ (t : Task). t.cost) own)

pub loop-cpu-preserved : goal.loop-cpu-preserved
loop-cpu-preserved c =
    let p = c.args.plan.now in
    let s = c.args.self.now in
    let chosen = c.args.chosen.now in
    let n = c.loop-cpu.cpu in
    let inv = c.loop-cpu.invariant in
    elim c.match-chosen-cpu.branch [
      | in_default w ↦ rw w.ticks-is (record { some = inv.some; most = inv.most; below = skips_one p s.run chosen n c.loop-cpu.ticks w.in_default.is inv.below })
      | in-Some w ↦
          let i = w.in-Some.task in
          let at = chosen_at p s chosen c.requires.event n i (record { small = c.loop-cpu-test.true; there = w.in-Some.is }) in
          let body = w.index-items-task.result in
          let own : body ≡ declared_task p i = w.index-items-task.is ∙ ap (λ (l : List Task). get_or l i body) w.items.ensures.value ∙ get_or_default p.diagram.tasks i body no_declared_task at.small in
          let rest : w.index.result.now ≡ get_or s.run.rest.items i 0 = get_or_read s.run.rest.items i w.index.result.now (omega (arith, at.small, c.requires.event.simulation.run.at.rests)) w.index.ensures 0 in
          let served : body.cost - w.index.result.now ≡ served_before p s.run i = omega (arith, rest, ap (λ (t : Task). t.cost) own) in
          let next : IsNextEvent body (served_before p s.run i) w.ticks_to_event.result = subst (λ (m : ℕ). IsNextEvent body m w.ticks_to_event.result) served w.ticks_to_event.ensures in
          rw w.ticks-is (record {
            some = omega (arith, inv.some, next.some, w.min-ticks.ensures);
            most = omega (arith, inv.most, w.min-ticks.ensures);
            below = fits_one p s.run chosen n c.loop-cpu.ticks w.ticks_to_event.result i body w.in-Some.is own next (omega (arith, at.within)) w.min-ticks.result (omega (arith, w.min-ticks.ensures)) (omega (arith, w.min-ticks.ensures)) inv.below;
          })
    ]

pub returns : goal.returns
returns c =
    let p = c.args.plan.now in
    let s = c.args.self.now in
    let last : c.loop-cpu.cpu ≡ cpu_count = omega (arith, c.loop-cpu-test.false, c.loop-cpu.auto.cpu-end) in
    record {
      jump = is_jump p s.run c.args.chosen.now c.loop-cpu.ticks c.args.most c.loop-cpu.invariant.some c.loop-cpu.invariant.most c.requires.until
          (subst (λ (n : ℕ). FitsBelow p s.run c.args.chosen.now n c.loop-cpu.ticks) last c.loop-cpu.invariant.below);
      most = c.loop-cpu.invariant.most;
    }
