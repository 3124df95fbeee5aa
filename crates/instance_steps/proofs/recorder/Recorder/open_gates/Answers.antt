use Rattle.std.proofs.Common.{◌≡◌, ◌<◌, ◌∙◌, List, ℕ, get_or, length, refl, sym, ap, subst, arith}
use Rattle.dbp_plan.specs.declared.schedule.Batch.{Batch}
use Rattle.dbp_rules.specs.declared.step.Step.TheVariants.{OpenGate}
use Rattle.instance_steps.specs.Plays.{Moves}
use Rattle.instance_steps.specs.Recorders.{AddsStep, plan_in, state_in, wiring_in}
use Rattle.instance_steps.proofs.Adding.{steps_longer}
use Rattle.instance_steps.proofs.AimedTasks.{tasks_of}
use Rattle.instance_steps.proofs.OpenedGates.{gate_may, opened_all, opened_entries, opened_more, opened_none}
use Rattle.instance_steps.proofs.recorder.Recorder.open_gates.Goals as goal

pub loop-n-init : goal.loop-n-init
loop-n-init c = record {
  adds = opened_none c.args.self.now c.args.number c.requires.batch c.requires.next;
  entries = refl;
  size = omega arith;
  table = refl;
}

pub make-requires-clause-moves : goal.make-requires-clause-moves
make-requires-clause-moves c =
    let a = c.args.self.now in
    let size : c.len-n-end.result ≡ length (tasks_of c.args.self.now c.args.number) = c.len-n-end.ensures ∙ ap (λ (b : Batch). length b.tasks) c.requires.same in
    let below : c.loop-n.n < length (tasks_of c.args.self.now c.args.number) = omega (arith, size, c.loop-n-test.true) in
    let items : c.items-tasks.result.now ≡ tasks_of c.args.self.now c.args.number =
    c.items-tasks.ensures.value ∙ ap (λ (b : Batch). b.tasks) c.requires.same in
    subst (λ (l : List ℕ). Moves (plan_in c.loop-n.self) (wiring_in c.loop-n.self) (state_in c.loop-n.self) (OpenGate (get_or l c.loop-n.n 0))) (sym items)
    (gate_may a c.args.number c.requires.batch c.requires.next c.loop-n.self c.loop-n.n below c.loop-n.invariant.adds)

pub loop-n-preserved : goal.loop-n-preserved
loop-n-preserved c =
    let a = c.args.self.now in
    let size : c.len-n-end.result ≡ length (tasks_of c.args.self.now c.args.number) = c.len-n-end.ensures ∙ ap (λ (b : Batch). length b.tasks) c.requires.same in
    let below : c.loop-n.n < length (tasks_of c.args.self.now c.args.number) = omega (arith, size, c.loop-n-test.true) in
    let items : c.items-tasks.result.now ≡ tasks_of c.args.self.now c.args.number =
    c.items-tasks.ensures.value ∙ ap (λ (b : Batch). b.tasks) c.requires.same in
    let step : AddsStep c.loop-n.self c.make.new.self (OpenGate (get_or (tasks_of c.args.self.now c.args.number) c.loop-n.n 0)) = subst (λ (l : List ℕ). AddsStep c.loop-n.self c.make.new.self (OpenGate (get_or l c.loop-n.n 0))) items c.in_ok-make.ensures.step in
    record {
      adds = opened_more a c.args.number c.requires.batch c.requires.next c.loop-n.self c.loop-n.n below c.loop-n.invariant.adds c.make.new.self step;
      entries = opened_entries a c.args.number c.requires.batch c.requires.next c.loop-n.self c.loop-n.n below c.loop-n.invariant.adds c.make.new.self step ∙ c.loop-n.invariant.entries;
      size = omega (arith, steps_longer _ _ _ step, c.loop-n.invariant.size);
      table = c.in_ok-make.ensures.table ∙ c.loop-n.invariant.table;
    }

pub returns-clause-adds : goal.returns-clause-adds
returns-clause-adds c =
    let size : c.len-n-end.result ≡ length (tasks_of c.args.self.now c.args.number) = c.len-n-end.ensures ∙ ap (λ (b : Batch). length b.tasks) c.requires.same in
    let all : c.loop-n.n ≡ length (tasks_of c.args.self.now c.args.number) = omega (arith, size, c.loop-n-test.false, c.loop-n.auto.n-end) in
    opened_all c.args.self.now c.args.number c.requires.batch c.requires.next c.loop-n.self c.loop-n.n all c.loop-n.invariant.adds
