use Rattle.std.proofs.Common.{arith, ◌+◌, ◌-◌, ◌∙◌, ℕ, sym, ap, subst}
use Rattle.virtual_time.specs.Runs.{IsRun}
use Rattle.virtual_time.specs.State.{NoBatchBefore}
use Rattle.virtual_time.proofs.Running.{sooner}
use Rattle.cpu_sim.specs.Choices.{all_cpus_at}
use Rattle.cpu_sim.proofs.ChosenTasks.{some_chosen}
use Rattle.cpu_sim.proofs.ServedStages.{all_later, bounded_later, served_all}
use Rattle.cpu_sim.proofs.simulation.Simulation.serve.Goals as goal

pub choices-chosen-requires : goal.choices-chosen-requires
choices-chosen-requires c = record { simulation = c.requires.simulation; until = sooner c.args.plan.now c.args.self.now.run.released c.args.limit (c.args.self.now.run.time + 1) c.requires.until (omega (arith, c.requires.ahead)) }

pub ticks_to_next-ticks-requires : goal.ticks_to_next-ticks-requires
ticks_to_next-ticks-requires c = record {
  event = c.choices-chosen.ensures;
  some = omega (arith, c.requires.ahead);
  until = sooner c.args.plan.now c.args.self.now.run.released c.args.limit (c.args.self.now.run.time + (c.args.limit - c.args.self.now.run.time)) c.requires.until (omega (arith, c.requires.ahead));
}

pub make_all_steps-requires : goal.make_all_steps-requires
make_all_steps-requires c = record { event = c.choices-chosen.ensures }

pub serve_all-requires : goal.serve_all-requires
serve_all-requires c = record { stepped = (c.args.self.now, c.in_ok-make_all_steps.ensures.stepped, c.ticks_to_next-ticks.ensures.jump) }

pub advance-requires : goal.advance-requires
advance-requires c =
    let p = c.args.plan.now in
    let s = c.args.self.now in
    let chosen = c.choices-chosen.result in
    let d = c.ticks_to_next-ticks.result in
    let jump = c.ticks_to_next-ticks.ensures.jump in
    let r = c.serve_all.new.self.run in
    let h = c.in_ok-serve_all.ensures.served s c.in_ok-make_all_steps.ensures.stepped jump in
    let (i, a, held) = c.requires.some in
    let (k, j, next) = some_chosen p s chosen c.choices-chosen.ensures i a held in (
      subst (λ (t : ℕ). IsRun p (all_cpus_at p (t + d)) r) (sym h.time) (all_later p s chosen d c.serve_all.new.self h),
      (
        subst (λ (t : ℕ). NoBatchBefore p r.released (t + d)) (sym h.time) (subst (λ (b : ℕ). NoBatchBefore p b (s.run.time + d)) (sym h.released) jump.until),
        bounded_later p s chosen d c.serve_all.new.self h k j next,
      ),
    )

pub returns : goal.returns
returns c =
    let p = c.args.plan.now in
    let s = c.args.self.now in
    let chosen = c.choices-chosen.result in
    let d = c.ticks_to_next-ticks.result in
    let jump = c.ticks_to_next-ticks.ensures.jump in
    let h = c.in_ok-serve_all.ensures.served s c.in_ok-make_all_steps.ensures.stepped jump in
    let e = c.advance.ensures in
    record {
      simulation = served_all p s chosen d c.serve_all.new.self h c.advance.new.self (subst (λ (t : ℕ). IsRun p (all_cpus_at p t) c.advance.new.self) (sym e.time) e.run) (e.time ∙ ap (λ (t : ℕ). t + d) h.time) e.released e.rest e.ends;
      later = omega (arith, e.time, h.time, jump.some);
      limit = omega (arith, e.time, h.time, c.ticks_to_next-ticks.ensures.most, c.requires.ahead);
      released = e.released ∙ h.released;
      keeps = h.keeps;
    }
