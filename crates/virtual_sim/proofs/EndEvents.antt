-- The end of an instance stands in the record at the time of its end.
use Rattle.std.proofs.Common.{◌≡◌, ◌≢◌, ℕ, zero, suc, ◌+◌, ◌-◌, ◌<◌, ◌≤◌, ◌⊎◌, List, [], ◌++◌, append_assoc, Option, Some, None, refl, sym, ap, ◌∙◌, subst, inl, inr, ⊎_elim, arith}
use Rattle.std.proofs.lemmas.Bool.{cases_eq, cases_lt}
use Rattle.std.proofs.lemmas.List.{append-nil}
use Rattle.dbp_plan.specs.declared.plan.Plan.{Plan}
use Rattle.rank_order.specs.Ends.{IsEnd}
use Rattle.rank_order.specs.Instances.{Instance}
use Rattle.rank_order.specs.Service.{IsService, left_of, served_ticks}
use Rattle.rank_order.specs.ServiceOf.{service}
use Rattle.rank_order.proofs.Choices.{tick_cases, tick_of}
use Rattle.rank_order.proofs.OneService.{serves_waiting}
use Rattle.rank_order.proofs.ServedTicks.{ends_after, left_falls, served_next}
use Rattle.rank_order.proofs.SomeService.{service_is}
use Rattle.dbp_rules.specs.Lawful.{Leads}
use Rattle.dbp_rules.specs.Start.{start_of}
use Rattle.dbp_rules.specs.Wired.{wiring_of}
use Rattle.dbp_rules.specs.declared.state.State.{State}
use Rattle.dbp_rules.specs.declared.step.Count.TheVariants.{Ranked}
use Rattle.dbp_rules.specs.declared.step.Step.{Step}
use Rattle.dbp_rules.specs.declared.wiring.Wiring.{Wiring}
use Rattle.instance_steps.specs.Events.{Event, end_events}
use Rattle.instance_steps.specs.Plays.{Plays}
use Rattle.instance_steps.proofs.PlaysLaws.{plays_apart, plays_leads}
use Rattle.virtual_time.specs.Pieces.{end_events_of, release_events_at, service_events_of}
use Rattle.virtual_time.proofs.PieceEvents.{an_end, no_end}
use Rattle.virtual_sim.specs.Record.{HasEndAt, IsRecord, end_events_at, events_at, events_before}
use Rattle.virtual_sim.proofs.OneRecord.{none_served}
use Rattle.virtual_sim.proofs.SoFar.{next_events}

module _ (p : Plan) (serve : ℕ → Option Instance) (is_service : IsService p serve) where
  -- a tick has no end, or that of the instance that ends then
  pub end_or_none : (t : ℕ) → (end_events_at p serve t ≡ []) ⊎ ((x : Instance) × IsEnd serve x t × (end_events_at p serve t ≡ end_events p x.task))
  end_or_none zero = inl refl
  end_or_none (suc t) = of (serve t) refl
    where
      of : (o : Option Instance) → serve t ≡ o → (end_events_at p serve (suc t) ≡ []) ⊎ ((x : Instance) × IsEnd serve x (suc t) × (end_events_at p serve (suc t) ≡ end_events p x.task))
      of None is = inl (ap (λ (o : Option Instance). end_events_of p serve o (suc t)) is)
      of (Some x) is = ⊎_elim
          (λ (e : left_of p serve x (suc t) ≡ 0).
          let next : t + 1 ≡ suc t = omega arith in
          inr (
            x,
            subst (IsEnd serve x) next (ends_after p serve (serves_waiting p serve is_service) x t is (subst (λ (u : ℕ). left_of p serve x u ≡ 0) (sym next) e)),
            ap (λ (o : Option Instance). end_events_of p serve o (suc t)) is ∙ an_end p serve x (suc t) e,
          ))
          (λ (ne : left_of p serve x (suc t) ≡ 0 → ⊥). inl (ap (λ (o : Option Instance). end_events_of p serve o (suc t)) is ∙ no_end p serve x (suc t) (omega (arith, ne))))
          (cases_eq (left_of p serve x (suc t)) 0)

  -- one that is served no more keeps what is left
  still_left : (x : Instance) (e : ℕ) → ((t : ℕ) → e ≤ t → serve t ≢ Some x) → (k : ℕ) → served_ticks serve x (e + k) ≡ served_ticks serve x e
  still_left x e none zero = ap (served_ticks serve x) (let z : e + 0 ≡ e = omega arith in z)
  still_left x e none (suc k) =
      let next : e + suc k ≡ suc (e + k) = omega arith in
      let before = still_left x e none k in
      let tick = served_next serve x (e + k) in
      ap (served_ticks serve x) next ∙ ⊎_elim
      (λ (own : (serve (e + k) ≡ Some x) × (tick_of x (serve (e + k)) ≡ 1)). absurd (none (e + k) (omega arith) own.0))
      (λ (other : (serve (e + k) ≢ Some x) × (tick_of x (serve (e + k)) ≡ 0)). let z = other.1 in omega (arith, before, tick, z))
      (tick_cases (serve (e + k)) x)

-- if all have ended, each end stands at its time
pub end_stands : (p : Plan) (script : List Step) → IsRecord p script → (x : Instance) (e : ℕ) → IsEnd (service p) x e → end_events_at p (service p) e ≡ end_events p x.task
end_stands p script record_is x e end =
    let serve : ℕ → Option Instance = service p in
    let waits = serves_waiting p (service p) (service_is p) end.last x end.served in
    let none : (t : ℕ) → e ≤ t → service p t ≢ Some x = λ t le. let after = end.after in end.no_later t (omega (arith, le, after)) in
    let at_last = record_is.ended x waits.instance in
    let done : left_of p (service p) x e ≡ 0 = ⊎_elim
    (λ (lt : e < record_is.last).
    let same = still_left p (service p) (service_is p) x e none (record_is.last - e) in
    let reach = ap (served_ticks (service p) x) (let z : e + (record_is.last - e) ≡ record_is.last = omega (arith, lt) in z) in
    omega (arith, at_last, same, reach))
    (λ (ge : record_is.last ≤ e). let falls = left_falls p (service p) x record_is.last e ge in omega (arith, at_last, falls))
    (cases_lt e record_is.last) in
    let next : e ≡ suc end.last = let after = end.after in omega (arith, after) in
    ap (end_events_at p (service p)) next
    ∙ ap (λ (o : Option Instance). end_events_of p (service p) o (suc end.last)) end.served
    ∙ an_end p (service p) x (suc end.last) (subst (λ (u : ℕ). left_of p (service p) x u ≡ 0) next done)

-- the events up to a later tick are those before this one, then this one's, then others
pub events_on : (p : Plan) (serve : ℕ → Option Instance) (t k : ℕ)
    → (more : List Event) × (events_before p serve (t + suc k) ≡ events_before p serve t ++ (events_at p serve t ++ more))
events_on p serve t zero =
    let one : t + 1 ≡ suc t = omega arith in
    ([], ap (events_before p serve) one ∙ next_events p serve t ∙ ap (λ (l : List Event). events_before p serve t ++ l) (sym (append-nil (events_at p serve t))))
events_on p serve t (suc k) =
    let next : t + suc (suc k) ≡ suc (t + suc k) = omega arith in
    let (more, is) = events_on p serve t k in
    let last : List Event = events_at p serve (t + suc k) in (
      more ++ last,
      ap (events_before p serve) next ∙ next_events p serve (t + suc k) ∙ ap (λ (l : List Event). l ++ last) is
          ∙ append_assoc (events_before p serve t) (events_at p serve t ++ more) last
          ∙ ap (λ (l : List Event). events_before p serve t ++ l) (append_assoc (events_at p serve t) more last),
    )

-- and its steps are in the list
pub end_is_there : (p : Plan) (script : List Step) → IsRecord p script → (x : Instance) (e : ℕ) → IsEnd (service p) x e → HasEndAt p script x.task e
end_is_there p script r x e end =
    let w : Wiring = wiring_of p Ranked in
    let serve : ℕ → Option Instance = service p in
    let there : end.last < r.last = ⊎_elim
    (λ (lt : end.last < r.last). lt)
    (λ (ge : r.last ≤ end.last). absurd (let bad : Some x ≡ None = sym end.served ∙ none_served p (service p) (service_is p) r.last r.released r.ended end.last ge in cc))
    (cases_lt end.last r.last) in
    let until : e + suc (r.last - e) ≡ r.last + 1 = omega (arith, there, end.after) in
    let (more, parted) = events_on p (service p) e (r.last - e) in
    let own : List Event = end_events p x.task in
    let other : List Event = release_events_at p p.batches e ++ service_events_of p (service p) (service p e) e in
    let is : events_before p (service p) (r.last + 1) ≡ events_before p (service p) e ++ (own ++ (other ++ more)) =
    ap (events_before p (service p)) (sym until) ∙ parted
    ∙ ap (λ (l : List Event). events_before p (service p) e ++ l)
    (append_assoc (end_events_at p (service p) e) other more ∙ ap (λ (l : List Event). l ++ (other ++ more)) (end_stands p script r x e end)) in
    let (earlier, back, before, list, ticks, rest) = plays_apart p w (events_before p (service p) e) (own ++ (other ++ more)) script (start_of p w) r.state
    (subst (λ (l : List Event). Plays p (wiring_of p Ranked) (start_of p (wiring_of p Ranked)) l script r.state) is r.plays) in
    let (ending, later, after, parts, ends, late) = plays_apart p w own (other ++ more) back before r.state rest in
    record {
      earlier = earlier;
      ending = ending;
      later = later;
      list = list ∙ ap (λ (l : List Step). earlier ++ l) parts;
      before = before;
      after = after;
      ticks = ticks;
      ends = ends;
    }

-- the recorded list is one of allowed steps
pub record_leads : (p : Plan) (script : List Step) → IsRecord p script → (s : State) × Leads p (wiring_of p Ranked) (start_of p (wiring_of p Ranked)) script s
record_leads p script r = (r.state, plays_leads p (wiring_of p Ranked) (events_before p (service p) (r.last + 1)) script (start_of p (wiring_of p Ranked)) r.state r.plays)
