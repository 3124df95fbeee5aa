-- A plan has a recorded list, or an overrun.
use Rattle.std.proofs.Common.{◌≡◌, ◌≢◌, ℕ, zero, suc, ◌+◌, ◌<◌, ◌⊎◌, List, [], ◌++◌, length, get_or, Option, Some, None, refl, sym, ap, ◌∙◌, subst, inl, inr, arith, append_assoc}
use Rattle.dbp_plan.specs.declared.plan.Plan.{Plan}
use Rattle.rank_order.specs.Ends.{IsOverrun, NoOverrun}
use Rattle.rank_order.specs.Instances.{Instance}
use Rattle.rank_order.specs.Service.{GoesBefore, IsFirst, ServesWaiting, Waits, left_of}
use Rattle.rank_order.specs.ServiceOf.{service}
use Rattle.rank_order.proofs.Choices.{same_instance}
use Rattle.rank_order.proofs.OneService.{serves_waiting}
use Rattle.rank_order.proofs.SomeOverrun.{overrun_or_none}
use Rattle.rank_order.proofs.SomeService.{service_is}
use Rattle.dbp_rules.specs.Lookups.{task, task_entry}
use Rattle.dbp_rules.specs.Start.{start_of}
use Rattle.dbp_rules.specs.Wired.{wiring_of}
use Rattle.dbp_rules.specs.declared.state.State.{State}
use Rattle.dbp_rules.specs.declared.step.Count.TheVariants.{Ranked}
use Rattle.dbp_rules.specs.declared.step.Step.{Step}
use Rattle.instance_steps.specs.Events.{Event}
use Rattle.instance_steps.specs.Plays.{Plays}
use Rattle.instance_steps.specs.TaskPieces.{MayStep}
use Rattle.virtual_time.specs.Pieces.{release_events_at, service_events_of}
use Rattle.virtual_time.specs.State.{IsSimulatedTo, NoBatchBefore, instance, release_count}
use Rattle.virtual_time.proofs.SomeRecord.{HasRecord, ends_to, services_to, some_record}
use Rattle.virtual_time.proofs.Steps.{waits_is}
use Rattle.virtual_time.proofs.TickStages.{Serves}
use Rattle.virtual_sim.specs.Record.{IsRecord, end_events_at, events_before}
use Rattle.virtual_sim.proofs.MaySteps.{may_first}
use Rattle.virtual_sim.proofs.SoFar.{next_events}

-- the one processor serves, and no other
abbrev serve : Plan → ℕ → ℕ → Option Instance
serve p zero t = service p t
serve p (suc c) t = None

nobody : (x : Instance) → None ≢ Some x
nobody x same = cc (same)

waiting : (p : Plan) (c : ℕ) → ServesWaiting p (serve p c)
waiting p zero t x is = serves_waiting p (service p) (service_is p) t x is
waiting p (suc c) t x is = absurd (nobody x is)

only_one : (p : Plan) (c t : ℕ) (x : Instance) → serve p c t ≡ Some x → 0 ≡ c
only_one p zero t x is = refl
only_one p (suc c) t x is = absurd (nobody x is)

served_on_it : (p : Plan) (c t : ℕ) (x : Instance) → serve p c t ≡ Some x → service p t ≡ Some x
served_on_it p zero t x is = is
served_on_it p (suc c) t x is = absurd (nobody x is)

-- one that waits is served, or another
busy : (p : Plan) (t : ℕ) (x : Instance) → Waits p (left_of p (service p)) t x → (c : ℕ) × (z : Instance) × (serve p c t ≡ Some z)
busy p t x waits = by (service p t) refl
  where
    by : (o : Option Instance) → service p t ≡ o → (c : ℕ) × (z : Instance) × (serve p c t ≡ Some z)
    by None is = absurd (subst (λ (o : Option Instance). IsFirst (GoesBefore p) (Waits p (left_of p (service p)) t) o) is ((service_is p).each t) x waits)
    by (Some z) is = (0, z, is)

-- the one that is served may step
may : (p : Plan) (t b : ℕ) (now : ℕ → ℕ) (rest : List ℕ) (ends : List (List ℕ)) → IsSimulatedTo p (λ i. 0) (serve p) b now rest ends → NoBatchBefore p b (t + 1)
    → (s : State) → ((j : ℕ) → j < length p.diagram.tasks → (task s j).part.ended ≡ length (get_or ends j []))
    → ((j : ℕ) → j < length p.diagram.tasks → (task_entry s j).aimed ≡ release_count p.batches b j)
    → (x : Instance) → service p t ≡ Some x → now 0 ≡ t → MayStep (wiring_of p Ranked) s x.task
may p t b now rest ends at until s ended aimed x is come =
    let first : IsFirst (GoesBefore p) (Waits p (left_of p (service p)) t) (Some x) = subst (λ (o : Option Instance). IsFirst (GoesBefore p) (Waits p (left_of p (service p)) t) o) is ((service_is p).each t) in
    let waits : Waits p (left_of p (service p)) (now 0) x = subst (λ (u : ℕ). Waits p (left_of p (service p)) u x) (sym come) first.0 in
    let last : (0 < get_or rest x.task 0) × (x.number ≡ release_count p.batches b x.task) = waits_is p (λ i. 0) (serve p) b now rest ends at (t + 1) until x (omega (arith, come)) waits in
    let same : x ≡ instance x.task (release_count p.batches b x.task) = same_instance x (instance x.task (release_count p.batches b x.task)) refl last.1 in
    may_first p (λ i. 0) (serve p) b now rest ends at s ended aimed x.task first.0.instance.task last.0
    (λ y w. subst (λ (z : Instance). (y ≡ z) ⊎ GoesBefore p z y) same (first.1 y (subst (λ (u : ℕ). Waits p (left_of p (service p)) u y) come w)))

serves : (p : Plan) → Serves p Ranked (λ i. 0) (serve p) 1
serves p = record {
  waiting = waiting p;
  own = only_one p;
  there = λ i. omega arith;
  busy = busy p;
  may = λ t b now rest ends at until s ended aimed c x is come. may p t b now rest ends at until s ended aimed x (served_on_it p c t x is) come;
  rows = λ t b rest ends at until events places r g c x is all. absurd (cc (all));
}

-- ---- the events

-- those before the release of a tick
front : Plan → ℕ → List Event
front p t = events_before p (service p) t ++ end_events_at p (service p) t

module _ (p : Plan) where
  first_front : front p 0 ≡ []
  unfolding front events_before
  first_front = refl

  -- with the release and the service of the tick
  whole_tick : (t : ℕ) → (front p t ++ release_events_at p p.batches t) ++ services_to p (serve p) 1 t ≡ events_before p (service p) (suc t)
  unfolding front
  whole_tick t =
      let before = events_before p (service p) t in
      let ends = end_events_at p (service p) t in
      let releases = release_events_at p p.batches t in
      let steps = service_events_of p (service p) (service p t) t in
      append_assoc (before ++ ends) releases steps ∙ append_assoc before ends (releases ++ steps) ∙ sym (next_events p (service p) t)

  next_front : (t : ℕ) → front p (suc t) ≡ ((front p t ++ release_events_at p p.batches t) ++ services_to p (serve p) 1 t) ++ ends_to p (serve p) 1 t
  unfolding front
  next_front t = ap (λ (l : List Event). l ++ end_events_at p (service p) (suc t)) (sym (whole_tick t))

  -- ---- the list

  recorded : NoOverrun p (left_of p (service p)) → (script : List Step) × IsRecord p script
  recorded in_time =
      let made : HasRecord p Ranked (λ i. 0) (serve p) 1 (front p) = some_record p Ranked (λ i. 0) (serve p) 1 (serves p) in_time (front p) first_front next_front in
      let next : suc made.last ≡ made.last + 1 = omega arith in
      let all : (front p made.last ++ release_events_at p p.batches made.last) ++ services_to p (serve p) 1 made.last ≡ events_before p (service p) (made.last + 1) =
      whole_tick made.last ∙ ap (events_before p (service p)) next in (
        made.steps,
        record {
          in_time = in_time;
          last = made.last;
          released = made.released;
          ended = made.ended;
          state = made.state;
          plays = subst (λ (l : List Event). Plays p (wiring_of p Ranked) (start_of p (wiring_of p Ranked)) l made.steps made.state) all made.plays;
        },
      )

  pub some_outcome : ((script : List Step) × IsRecord p script) ⊎ ((t : ℕ) × (x : Instance) × IsOverrun p (left_of p (service p)) t x)
  some_outcome = elim (overrun_or_none p (left_of p (service p))) [
    | inl in_time ↦ inl (recorded in_time)
    | inr late ↦ inr late
  ]
