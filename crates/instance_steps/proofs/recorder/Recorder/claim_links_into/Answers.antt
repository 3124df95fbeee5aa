use Rattle.std.proofs.Common.{◌≡◌, ◌<◌, ◌∙◌, List, ℕ, get_or, length, refl, sym, ap, subst, arith}
use Rattle.dbp_plan.specs.declared.plan.Plan.{Plan}
use Rattle.dbp_rules.specs.declared.step.Step.TheVariants.{Claim}
use Rattle.release_list.specs.Releases.{links_into}
use Rattle.instance_steps.specs.Plays.{Moves}
use Rattle.instance_steps.specs.Recorders.{AddsStep, plan_in, state_in, wiring_in}
use Rattle.instance_steps.proofs.Adding.{steps_longer}
use Rattle.instance_steps.proofs.ClaimedLinks.{claimed_all, claimed_entries, claimed_more, claimed_none, into_is, into_of, link_may}
use Rattle.instance_steps.proofs.recorder.Recorder.claim_links_into.Goals as goal

pub loop-n-init : goal.loop-n-init
loop-n-init c = record {
  adds = claimed_none c.args.self.now c.args.task c.requires.task c.requires.next;
  entries = refl;
  size = omega arith;
  table = refl;
}

pub make-requires-clause-moves : goal.make-requires-clause-moves
make-requires-clause-moves c =
    let a = c.args.self.now in
    let b = c.loop-n.self in
    let i = c.args.task in
    let size : c.len-n-end.result ≡ length (into_of c.args.self.now c.args.task) = c.len-n-end.ensures ∙ ap length (into_is a i c.task_wiring.result.now c.requires.task c.task_wiring.ensures) in
    let below : c.loop-n.n < length (into_of c.args.self.now c.args.task) = omega (arith, size, c.loop-n-test.true) in
    let named : c.args.task < length (plan_in c.loop-n.self).diagram.tasks = subst (λ (p : Plan). c.args.task < length p.diagram.tasks) (sym c.loop-n.invariant.adds.steps.plan) c.requires.task in
    let items : c.items.result.now ≡ into_of c.args.self.now c.args.task =
    c.items.ensures.value ∙ into_is b i c.task_wiring-in-loop-n.result.now named c.task_wiring-in-loop-n.ensures ∙ ap (λ (p : Plan). links_into p.diagram.links c.args.task) c.loop-n.invariant.adds.steps.plan in
    subst (λ (l : List ℕ). Moves (plan_in c.loop-n.self) (wiring_in c.loop-n.self) (state_in c.loop-n.self) (Claim (get_or l c.loop-n.n 0))) (sym items)
    (link_may a i c.requires.task c.requires.next b c.loop-n.n below c.loop-n.invariant.adds)

pub make-requires-clause-room : goal.make-requires-clause-room
make-requires-clause-room c =
    let size : c.len-n-end.result ≡ length (into_of c.args.self.now c.args.task) = c.len-n-end.ensures ∙ ap length (into_is c.args.self.now c.args.task c.task_wiring.result.now c.requires.task c.task_wiring.ensures) in
    omega (arith, size, c.loop-n-test.true, c.loop-n.invariant.size, c.requires.room)

pub loop-n-preserved : goal.loop-n-preserved
loop-n-preserved c =
    let a = c.args.self.now in
    let b = c.loop-n.self in
    let i = c.args.task in
    let size : c.len-n-end.result ≡ length (into_of c.args.self.now c.args.task) = c.len-n-end.ensures ∙ ap length (into_is a i c.task_wiring.result.now c.requires.task c.task_wiring.ensures) in
    let below : c.loop-n.n < length (into_of c.args.self.now c.args.task) = omega (arith, size, c.loop-n-test.true) in
    let named : c.args.task < length (plan_in c.loop-n.self).diagram.tasks = subst (λ (p : Plan). c.args.task < length p.diagram.tasks) (sym c.loop-n.invariant.adds.steps.plan) c.requires.task in
    let items : c.items.result.now ≡ into_of c.args.self.now c.args.task =
    c.items.ensures.value ∙ into_is b i c.task_wiring-in-loop-n.result.now named c.task_wiring-in-loop-n.ensures ∙ ap (λ (p : Plan). links_into p.diagram.links c.args.task) c.loop-n.invariant.adds.steps.plan in
    let step : AddsStep c.loop-n.self c.make.new.self (Claim (get_or (into_of c.args.self.now c.args.task) c.loop-n.n 0)) = subst (λ (l : List ℕ). AddsStep c.loop-n.self c.make.new.self (Claim (get_or l c.loop-n.n 0))) items c.in_ok-make.ensures.step in
    record {
      adds = claimed_more a i c.requires.task c.requires.next b c.loop-n.n below c.loop-n.invariant.adds c.make.new.self step;
      entries = claimed_entries a i c.requires.task c.requires.next b c.loop-n.n below c.loop-n.invariant.adds c.make.new.self step ∙ c.loop-n.invariant.entries;
      size = omega (arith, steps_longer _ _ _ step, c.loop-n.invariant.size);
      table = c.in_ok-make.ensures.table ∙ c.loop-n.invariant.table;
    }

pub returns-clause-adds : goal.returns-clause-adds
returns-clause-adds c =
    let size : c.len-n-end.result ≡ length (into_of c.args.self.now c.args.task) = c.len-n-end.ensures ∙ ap length (into_is c.args.self.now c.args.task c.task_wiring.result.now c.requires.task c.task_wiring.ensures) in
    let all : c.loop-n.n ≡ length (into_of c.args.self.now c.args.task) = omega (arith, size, c.loop-n-test.false, c.loop-n.auto.n-end) in
    claimed_all c.args.self.now c.args.task c.requires.task c.requires.next c.loop-n.self c.loop-n.n all c.loop-n.invariant.adds
