-- A plan has one recorded list at most.
use Rattle.std.proofs.Common.{◌≡◌, ℕ, zero, suc, ◌+◌, ◌-◌, ◌<◌, ◌≤◌, All, List, [], ◌++◌, Option, Some, None, refl, sym, ap, ◌∙◌, subst, ⊎_elim, arith}
use Rattle.std.proofs.lemmas.Bool.{cases_lt}
use Rattle.std.proofs.lemmas.List.{append-nil}
use Rattle.dbp_plan.specs.declared.plan.Plan.{Plan}
use Rattle.rank_order.specs.Instances.{Instance, IsInstance}
use Rattle.rank_order.specs.Service.{IsService, left_of}
use Rattle.rank_order.specs.ServiceOf.{service}
use Rattle.rank_order.proofs.OneService.{serves_waiting}
use Rattle.rank_order.proofs.SomeService.{service_is}
use Rattle.dbp_rules.specs.Start.{start_of}
use Rattle.dbp_rules.specs.Wired.{wiring_of}
use Rattle.rank_order.proofs.ServedTicks.{left_falls}
use Rattle.dbp_rules.specs.declared.step.Count.TheVariants.{Ranked}
use Rattle.dbp_rules.specs.declared.step.Step.{Step}
use Rattle.instance_steps.specs.Events.{Event}
use Rattle.instance_steps.specs.Plays.{Plays}
use Rattle.instance_steps.proofs.PlaysLaws.{one_play}
use Rattle.virtual_time.specs.Pieces.{end_events_of, release_events_at, service_events_of}
use Rattle.virtual_time.proofs.PieceEvents.{no_releases}
use Rattle.virtual_sim.specs.Record.{IsRecord, events_at, events_before}
use Rattle.virtual_sim.proofs.SoFar.{next_events}

module _ (p : Plan) (serve : ℕ → Option Instance) (service : IsService p serve) (last : ℕ)
    (released : All (λ b. b.time ≤ last) p.batches) (ended : (x : Instance) → IsInstance p x → left_of p serve x last ≡ 0) where
  pub none_served : (t : ℕ) → last ≤ t → serve t ≡ None
  none_served t le = none (serve t) refl
    where
      none : (o : Option Instance) → serve t ≡ o → serve t ≡ None
      none None is = is
      none (Some x) is =
          let waits = serves_waiting p serve service t x is in
          let falls = left_falls p serve x last t le in
          absurd (omega (arith, ended x waits.instance, falls, waits.unfinished))

  -- nothing happens later
  no_events : (t : ℕ) → last < t → events_at p serve t ≡ []
  no_events zero lt = absurd (omega (arith, lt))
  no_events (suc t) lt =
      let releases : release_events_at p p.batches (suc t) ≡ [] = no_releases p p.batches (suc t) (λ k d kl same. let r = released k d kl in omega (arith, r, same, lt)) in
      ap (λ (o : Option Instance). end_events_of p serve o (suc t) ++ (release_events_at p p.batches (suc t) ++ service_events_of p serve (serve (suc t)) (suc t))) (none_served t (omega (arith, lt)))
      ∙ ap (λ (l : List Event). l ++ service_events_of p serve (serve (suc t)) (suc t)) releases
      ∙ ap (λ (o : Option Instance). service_events_of p serve o (suc t)) (none_served (suc t) (omega (arith, lt)))

  pub same_events : (k : ℕ) → events_before p serve (last + 1 + k) ≡ events_before p serve (last + 1)
  same_events zero = ap (events_before p serve) (let e : last + 1 + 0 ≡ last + 1 = omega arith in e)
  same_events (suc k) =
      ap (events_before p serve) (let e : last + 1 + suc k ≡ suc (last + 1 + k) = omega arith in e)
      ∙ next_events p serve (last + 1 + k)
      ∙ ap (λ (l : List Event). events_before p serve (last + 1 + k) ++ l) (no_events (last + 1 + k) (omega arith))
      ∙ append-nil (events_before p serve (last + 1 + k)) ∙ same_events k

one_list : (p : Plan) (script other : List Step) (a : IsRecord p script) (b : IsRecord p other) → a.last ≤ b.last → script ≡ other
one_list p script other a b le =
    let same : events_before p (service p) (b.last + 1) ≡ events_before p (service p) (a.last + 1) =
    ap (events_before p (service p)) (let e : b.last + 1 ≡ a.last + 1 + (b.last - a.last) = omega (arith, le) in e)
    ∙ same_events p (service p) (service_is p) a.last a.released a.ended (b.last - a.last) in
    one_play p (wiring_of p Ranked) (events_before p (service p) (a.last + 1)) script other (start_of p (wiring_of p Ranked)) a.state b.state a.plays
    (subst (λ (l : List Event). Plays p (wiring_of p Ranked) (start_of p (wiring_of p Ranked)) l other b.state) same b.plays)

pub one_record : (p : Plan) (script other : List Step) → IsRecord p script → IsRecord p other → script ≡ other
one_record p script other a b = ⊎_elim
    (λ (lt : b.last < a.last). sym (one_list p other script b a (omega (arith, lt))))
    (λ (ge : a.last ≤ b.last). one_list p script other a b ge)
    (cases_lt b.last a.last)
