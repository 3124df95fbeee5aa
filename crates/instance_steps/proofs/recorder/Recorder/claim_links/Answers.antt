use Rattle.std.proofs.Common.{◌≡◌, ◌+◌, ◌*◌, ◌<◌, ◌≤◌, ◌∙◌, List, ℕ, get_or, length, refl, sym, ap, subst, arith}
use Rattle.std.proofs.Math.Nat.{mul-le-mul_right}
use Rattle.std.proofs.lemmas.List.{length-map}
use Rattle.dbp_plan.specs.declared.plan.Plan.{Plan}
use Rattle.dbp_plan.specs.declared.schedule.Batch.{Batch}
use Rattle.release_list.specs.Releases.{links_into}
use Rattle.release_list.proofs.IntoLinks.{into_few}
use Rattle.dbp_rules.specs.declared.step.Step.TheVariants.{Claim}
use Rattle.release_list.specs.declared.release.Release.TheVariants as release
use Rattle.std.specs.Prelude.{slice_get, Some}
use Rattle.instance_steps.specs.Events.{claim_events, step_of}
use Rattle.instance_steps.specs.Recorders.{plan_in, state_in, wiring_in}
use Rattle.instance_steps.specs.Releases.{AddsRelease}
use Rattle.instance_steps.proofs.Adding.{steps_long}
use Rattle.instance_steps.proofs.AimedTasks.{tasks_of}
use Rattle.instance_steps.proofs.ClaimedLinks.{next_claims, next_named, tasks_all, tasks_more, tasks_none}
use Rattle.instance_steps.proofs.recorder.Recorder.claim_links.Goals as goal

pub loop-n-init : goal.loop-n-init
loop-n-init c = record {
  adds = tasks_none c.args.self.now c.args.number c.requires.batch c.requires.next;
  entries = refl;
  size = omega arith;
  table = refl;
}

pub claim_links_into-requires-clause-task : goal.claim_links_into-requires-clause-task
claim_links_into-requires-clause-task c =
    let size : c.len-n-end.result ≡ length (tasks_of c.args.self.now c.args.number) = c.len-n-end.ensures ∙ ap (λ (b : Batch). length b.tasks) c.requires.same in
    let below : c.loop-n.n < length (tasks_of c.args.self.now c.args.number) = omega (arith, size, c.loop-n-test.true) in
    let items : c.items-tasks.result.now ≡ tasks_of c.args.self.now c.args.number =
    c.items-tasks.ensures.value ∙ ap (λ (b : Batch). b.tasks) c.requires.same in
    subst (λ (l : List ℕ). get_or l c.loop-n.n 0 < length (plan_in c.loop-n.self).diagram.tasks) (sym items)
    (next_named c.args.self.now c.args.number c.requires.batch c.requires.next c.loop-n.self c.loop-n.n below c.loop-n.invariant.adds)

pub claim_links_into-requires-clause-next : goal.claim_links_into-requires-clause-next
claim_links_into-requires-clause-next c =
    let size : c.len-n-end.result ≡ length (tasks_of c.args.self.now c.args.number) = c.len-n-end.ensures ∙ ap (λ (b : Batch). length b.tasks) c.requires.same in
    let below : c.loop-n.n < length (tasks_of c.args.self.now c.args.number) = omega (arith, size, c.loop-n-test.true) in
    let items : c.items-tasks.result.now ≡ tasks_of c.args.self.now c.args.number =
    c.items-tasks.ensures.value ∙ ap (λ (b : Batch). b.tasks) c.requires.same in
    subst (λ (l : List ℕ). (j : ℕ) → j < length (links_into (plan_in c.loop-n.self).diagram.links (get_or l c.loop-n.n 0)) → slice_get (wiring_in c.loop-n.self).releases ((state_in c.loop-n.self).releaser.place + j) ≡ Some (release.Claim (get_or (links_into (plan_in c.loop-n.self).diagram.links (get_or l c.loop-n.n 0)) j 0))) (sym items)
    (next_claims c.args.self.now c.args.number c.requires.batch c.requires.next c.loop-n.self c.loop-n.n below c.loop-n.invariant.adds)

pub claim_links_into-requires-clause-room : goal.claim_links_into-requires-clause-room
claim_links_into-requires-clause-room c =
    let a = c.args.self.now in
    let size : c.len-n-end.result ≡ length (tasks_of c.args.self.now c.args.number) = c.len-n-end.ensures ∙ ap (λ (b : Batch). length b.tasks) c.requires.same in
    let few : length (links_into (plan_in c.loop-n.self).diagram.links (get_or c.items-tasks.result.now c.loop-n.n 0)) ≤ length (plan_in c.loop-n.self).diagram.links = into_few (plan_in c.loop-n.self).diagram.links (get_or c.items-tasks.result.now c.loop-n.n 0) (length (plan_in c.loop-n.self).diagram.links) in
    let scaled : (c.loop-n.n + 1) * length (plan_in c.args.self.now).diagram.links ≤ length (tasks_of c.args.self.now c.args.number) * length (plan_in c.args.self.now).diagram.links = mul-le-mul_right (length (plan_in c.args.self.now).diagram.links) (omega (arith, size, c.loop-n-test.true)) in
    omega (arith, few, scaled, c.loop-n.invariant.size, c.requires.room, ap (λ (p : Plan). length p.diagram.links) c.loop-n.invariant.adds.steps.plan)

pub loop-n-preserved : goal.loop-n-preserved
loop-n-preserved c =
    let size : c.len-n-end.result ≡ length (tasks_of c.args.self.now c.args.number) = c.len-n-end.ensures ∙ ap (λ (b : Batch). length b.tasks) c.requires.same in
    let below : c.loop-n.n < length (tasks_of c.args.self.now c.args.number) = omega (arith, size, c.loop-n-test.true) in
    let items : c.items-tasks.result.now ≡ tasks_of c.args.self.now c.args.number =
    c.items-tasks.ensures.value ∙ ap (λ (b : Batch). b.tasks) c.requires.same in
    let few : length (links_into (plan_in c.loop-n.self).diagram.links (get_or (tasks_of c.args.self.now c.args.number) c.loop-n.n 0)) ≤ length (plan_in c.loop-n.self).diagram.links =
    into_few (plan_in c.loop-n.self).diagram.links (get_or (tasks_of c.args.self.now c.args.number) c.loop-n.n 0) (length (plan_in c.loop-n.self).diagram.links) in
    let one : AddsRelease c.loop-n.self c.claim_links_into.new.self (claim_events (plan_in c.loop-n.self) (get_or (tasks_of c.args.self.now c.args.number) c.loop-n.n 0)) ((state_in c.loop-n.self).releaser.place + length (links_into (plan_in c.loop-n.self).diagram.links (get_or (tasks_of c.args.self.now c.args.number) c.loop-n.n 0))) =
    subst (λ (l : List ℕ). AddsRelease c.loop-n.self c.claim_links_into.new.self (claim_events (plan_in c.loop-n.self) (get_or l c.loop-n.n 0)) ((state_in c.loop-n.self).releaser.place + length (links_into (plan_in c.loop-n.self).diagram.links (get_or l c.loop-n.n 0)))) items c.in_ok-claim_links_into.ensures.adds in
    record {
      adds = tasks_more c.args.self.now c.args.number c.requires.batch c.requires.next c.loop-n.self c.loop-n.n below c.loop-n.invariant.adds c.claim_links_into.new.self one;
      entries = c.in_ok-claim_links_into.ensures.entries ∙ c.loop-n.invariant.entries;
      size = omega (arith, steps_long _ _ _ one.steps, length-map (links_into (plan_in c.loop-n.self).diagram.links (get_or (tasks_of c.args.self.now c.args.number) c.loop-n.n 0)) (λ k. step_of (Claim k)), few, c.loop-n.invariant.size, ap (λ (p : Plan). length p.diagram.links) c.loop-n.invariant.adds.steps.plan);
      table = c.in_ok-claim_links_into.ensures.table ∙ c.loop-n.invariant.table;
    }

pub returns-clause-adds : goal.returns-clause-adds
returns-clause-adds c =
    let size : c.len-n-end.result ≡ length (tasks_of c.args.self.now c.args.number) = c.len-n-end.ensures ∙ ap (λ (b : Batch). length b.tasks) c.requires.same in
    let all : c.loop-n.n ≡ length (tasks_of c.args.self.now c.args.number) = omega (arith, size, c.loop-n-test.false, c.loop-n.auto.n-end) in
    tasks_all c.args.self.now c.args.number c.requires.batch c.requires.next c.loop-n.self c.loop-n.n all c.loop-n.invariant.adds
