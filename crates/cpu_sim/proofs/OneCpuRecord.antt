-- A plan has one recorded list at most on its processors, and each of its steps moves its party.
use Rattle.std.proofs.Common.{◌≡◌, ℕ, zero, suc, ◌+◌, ◌-◌, ◌<◌, ◌≤◌, All, List, [], ◌∷◌, ◌++◌, Option, Some, None, refl, sym, ap, ◌∙◌, subst, ⊎_elim, arith}
use Rattle.std.specs.List.{range_with_len}
use Rattle.std.proofs.lemmas.Bool.{cases_lt}
use Rattle.std.proofs.lemmas.List.{append-nil}
use Rattle.dbp_plan.specs.declared.plan.Plan.{Plan}
use Rattle.rank_order.specs.Instances.{Instance, IsInstance}
use Rattle.rank_order.proofs.ServedTicks.{left_falls}
use Rattle.dbp_rules.specs.Lawful.{Leads}
use Rattle.dbp_rules.specs.Rules.{next}
use Rattle.dbp_rules.specs.Start.{start_of}
use Rattle.dbp_rules.specs.Wired.{wiring_of}
use Rattle.dbp_rules.specs.declared.state.State.{State}
use Rattle.dbp_rules.specs.declared.step.Count.TheVariants.{All as AllTasks}
use Rattle.dbp_rules.specs.declared.step.Step.{Step}
use Rattle.dbp_rules.specs.declared.wiring.Wiring.{Wiring}
use Rattle.instance_steps.specs.Events.{Event}
use Rattle.instance_steps.specs.Plays.{Moves, Plays}
use Rattle.instance_steps.proofs.PlaysLaws.{one_play, plays_leads}
use Rattle.virtual_time.specs.Pieces.{end_events_of, release_events_at, service_events_of}
use Rattle.virtual_time.proofs.PieceEvents.{no_releases}
use Rattle.cpu_sim.specs.Processors.{IsServiceOn, cpu_of, left_on}
use Rattle.cpu_sim.specs.Record.{IsCpuRecord, cpu_count, ends_below, events_at, events_before, services_below}
use Rattle.cpu_sim.specs.Services.{services}
use Rattle.cpu_sim.proofs.OneServiceOn.{serves-one-of}
use Rattle.cpu_sim.proofs.RecordTicks.{next_events, none-of}
use Rattle.cpu_sim.proofs.SomeServiceOn.{services-are}

-- ---- one list

module _ (p : Plan) (serve : ℕ → ℕ → Option Instance) (service : IsServiceOn p serve) (last : ℕ)
    (released : All (λ b. b.time ≤ last) p.batches) (ended : (x : Instance) → IsInstance p x → left_on p serve x last ≡ 0) where
  pub none-served : (c t : ℕ) → last ≤ t → serve c t ≡ None
  none-served c t le = none (serve c t) refl
    where
      none : (o : Option Instance) → serve c t ≡ o → serve c t ≡ None
      none None is = is
      none (Some x) is =
          let waits = (serves-one-of p serve service c t x is).waits in
          let falls = left_falls p (serve (cpu_of p x)) x last t le in
          absurd (omega (arith, ended x waits.instance, falls, waits.unfinished))

  -- nothing happens later
  no-events : (t : ℕ) → last < t → events_at p serve t ≡ []
  no-events zero lt = absurd (omega (arith, lt))
  no-events (suc t) lt =
      let ends : ends_below p serve cpu_count (suc t) ≡ [] = none-of (λ c. end_events_of p (serve c) (serve c t) (suc t)) (range_with_len 0 cpu_count) (λ c. ap (λ (o : Option Instance). end_events_of p (serve c) o (suc t)) (none-served c t (omega (arith, lt)))) in
      let releases : release_events_at p p.batches (suc t) ≡ [] = no_releases p p.batches (suc t) (λ k d kl same. let r = released k d kl in omega (arith, r, same, lt)) in
      let steps : services_below p serve cpu_count (suc t) ≡ [] = none-of (λ c. service_events_of p (serve c) (serve c (suc t)) (suc t)) (range_with_len 0 cpu_count) (λ c. ap (λ (o : Option Instance). service_events_of p (serve c) o (suc t)) (none-served c (suc t) (omega (arith, lt)))) in
      ap (λ (l : List Event). l ++ (release_events_at p p.batches (suc t) ++ services_below p serve cpu_count (suc t))) ends
      ∙ ap (λ (l : List Event). l ++ services_below p serve cpu_count (suc t)) releases
      ∙ steps

  pub same-events : (k : ℕ) → events_before p serve (last + 1 + k) ≡ events_before p serve (last + 1)
  same-events zero = ap (events_before p serve) (let e : last + 1 + 0 ≡ last + 1 = omega arith in e)
  same-events (suc k) =
      ap (events_before p serve) (let e : last + 1 + suc k ≡ suc (last + 1 + k) = omega arith in e)
      ∙ next_events p serve (last + 1 + k)
      ∙ ap (λ (l : List Event). events_before p serve (last + 1 + k) ++ l) (no-events (last + 1 + k) (omega arith))
      ∙ append-nil (events_before p serve (last + 1 + k)) ∙ same-events k

one-list : (p : Plan) (script other : List Step) (a : IsCpuRecord p script) (b : IsCpuRecord p other) → a.last ≤ b.last → script ≡ other
one-list p script other a b le =
    let same : events_before p (services p) (b.last + 1) ≡ events_before p (services p) (a.last + 1) =
    ap (events_before p (services p)) (let e : b.last + 1 ≡ a.last + 1 + (b.last - a.last) = omega (arith, le) in e)
    ∙ same-events p (services p) (services-are p) a.last a.released a.ended (b.last - a.last) in
    one_play p (wiring_of p AllTasks) (events_before p (services p) (a.last + 1)) script other (start_of p (wiring_of p AllTasks)) a.state b.state a.plays
    (subst (λ (l : List Event). Plays p (wiring_of p AllTasks) (start_of p (wiring_of p AllTasks)) l other b.state) same b.plays)

pub one-cpu-record : (p : Plan) (script other : List Step) → IsCpuRecord p script → IsCpuRecord p other → script ≡ other
one-cpu-record p script other a b = ⊎_elim
    (λ (lt : b.last < a.last). sym (one-list p other script b a (omega (arith, lt))))
    (λ (ge : a.last ≤ b.last). one-list p script other a b ge)
    (cases_lt b.last a.last)

-- ---- each of its steps

pub record-leads : (p : Plan) (script : List Step) (r : IsCpuRecord p script) → Leads p (wiring_of p AllTasks) (start_of p (wiring_of p AllTasks)) script r.state
record-leads p script r = plays_leads p (wiring_of p AllTasks) (events_before p (services p) (r.last + 1)) script (start_of p (wiring_of p AllTasks)) r.state r.plays

module _ (p : Plan) (w : Wiring) where
  -- a step among those that play events moves its party in the state to which the ones before it lead
  plays-move : (front : List Step) (vs : List Event) (e : Step) (rest : List Step) (s t : State) → Plays p w s vs (front ++ e ∷ rest) t → (u : State) × Leads p w s front u × Moves p w u e
  plays-move [] [] e rest s t none = absurd none
  plays-move [] (v ∷ vs) e rest s t plays = (s, refl, plays.1)
  plays-move (f ∷ front) [] e rest s t none = absurd none
  plays-move (f ∷ front) (v ∷ vs) e rest s t plays =
      let (u, leads, moves) = plays-move front vs e rest (next p w s f) t plays.2 in
      (u, (plays.1.named, plays.1.allowed, leads), moves)

pub record-moves : (p : Plan) (front : List Step) (e : Step) (rest : List Step) → IsCpuRecord p (front ++ e ∷ rest) → (u : State) × Leads p (wiring_of p AllTasks) (start_of p (wiring_of p AllTasks)) front u × Moves p (wiring_of p AllTasks) u e
record-moves p front e rest r = plays-move p (wiring_of p AllTasks) front (events_before p (services p) (r.last + 1)) e rest (start_of p (wiring_of p AllTasks)) r.state r.plays
