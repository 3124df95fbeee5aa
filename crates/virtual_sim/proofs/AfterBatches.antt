-- A recorded list stands after each batch.
use Rattle.std.specs.Prelude.{nat_lt, slice_get}
use Rattle.std.proofs.Common.{◌≡◌, ℕ, zero, suc, ◌+◌, ◌-◌, ◌<◌, ◌≤◌, eqb, List, [], ◌∷◌, ◌++◌, length, take, drop, get_or, append_assoc, Option, Some, inl, inr, refl, sym, ap, ◌∙◌, subst, arith, length-append, take-append-drop}
use Rattle.std.specs.List.{filter}
use Rattle.std.proofs.lemmas.Bool.{cases_lt, eq-eqb, le-ltb, lt-ltb, ne_eqb}
use Rattle.std.proofs.lemmas.Option.{get_or_from_slice_get, same_Some, slice_get_within}
use Rattle.dbp_plan.specs.declared.diagram.Link.{Link}
use Rattle.dbp_plan.specs.declared.plan.Plan.{Plan}
use Rattle.dbp_plan.specs.declared.schedule.Batch.{Batch}
use Rattle.dbp_plan.proofs.ListMaps.{filter-none}
use Rattle.dbp_plan.proofs.Numbers.{Rise, rise, rise-rest}
use Rattle.release_list.specs.Releases.{releases_at, releases_of}
use Rattle.rank_order.specs.Instances.{Instance}
use Rattle.rank_order.specs.ServiceOf.{service}
use Rattle.dbp_rules.specs.Start.{start_of}
use Rattle.dbp_rules.specs.Wired.{wiring_of}
use Rattle.dbp_rules.specs.declared.step.Count.TheVariants.{Ranked}
use Rattle.dbp_rules.specs.declared.step.Step.{Step}
use Rattle.dbp_rules.specs.declared.wiring.Wiring.{Wiring}
use Rattle.instance_steps.specs.Events.{Event}
use Rattle.instance_steps.specs.Plays.{Plays}
use Rattle.instance_steps.proofs.PlaysLaws.{one_play, plays_apart}
use Rattle.instance_steps.proofs.ReleasedPlaces.{actions, actions-append, batches_actions, place_of_play}
use Rattle.virtual_time.specs.Pieces.{release_events_at, service_events_of}
use Rattle.virtual_time.proofs.PieceActions.{end_none, service_none}
use Rattle.virtual_time.proofs.PieceEvents.{releases-append}
use Rattle.virtual_sim.specs.Record.{IsRecord, StandsAfterBatch, end_events_at, events_at, events_before, events_so_far}
use Rattle.virtual_sim.proofs.EndEvents.{events_on}
use Rattle.virtual_sim.proofs.SoFar.{next_events}

-- ---- batches by time

-- the batches before a time, and those of it
abbrev earlier : List Batch → ℕ → List Batch
earlier bs t = filter (λ b. nat_lt b.time t) bs

abbrev due : List Batch → ℕ → List Batch
due bs t = filter (λ b. eqb b.time t) bs

module _ (links : List Link) where
  -- how many actions the releaser makes for these batches
  abbrev size : List Batch → ℕ
  size bs = length (releases_of links bs)

  size_more : (b : Batch) (bs : List Batch) → size (b ∷ bs) ≡ length (releases_at links b) + size bs
  size_more b bs = length-append (releases_at links b) (releases_of links bs)

  -- before the next time come the batches before this one, and those of this one
  tick_more : (bs : List Batch) (t : ℕ) → size (earlier bs (suc t)) ≡ size (earlier bs t) + size (due bs t)
  tick_more [] t = refl
  tick_more (b ∷ bs) t =
      let rest = tick_more bs t in
      elim (cases_lt b.time t) [
        | inl before ↦
            rw (lt-ltb b.time (suc t) (omega (arith, before)), lt-ltb b.time t before, ne_eqb b.time t (λ e. omega (arith, e, before)))
            (omega (arith, rest, size_more b (earlier bs (suc t)), size_more b (earlier bs t)))
        | inr not_before ↦ elim (cases_lt t b.time) [
          | inl after ↦ rw (le-ltb b.time (suc t) (omega (arith, after)), le-ltb b.time t not_before, ne_eqb b.time t (λ e. omega (arith, e, after))) rest
          | inr not_after ↦
              rw (lt-ltb b.time (suc t) (omega (arith, not_after)), le-ltb b.time t not_before, eq-eqb b.time t (omega (arith, not_before, not_after)))
              (omega (arith, rest, size_more b (earlier bs (suc t)), size_more b (due bs t)))
        ]
      ]

  -- the batches up to one are those before its time, and itself
  up_to : (bs : List Batch) (number : ℕ) (b : Batch) → Rise bs → slice_get bs number ≡ Some b
      → size (earlier bs b.time) + size (due (take (suc number) bs) b.time) ≡ size (take (suc number) bs)
  up_to [] number b up there = absurd cc
  up_to (a ∷ bs) zero b up there =
      let same : a.time ≡ b.time = ap (λ (c : Batch). c.time) (same_Some a b there) in
      let later : earlier bs b.time ≡ [] = filter-none (λ c. nat_lt c.time b.time) bs (λ k d less.
      let after : a.time < (get_or bs k d).time = up.pairs 0 (suc k) d (omega arith) (omega (arith, less)) in
      le-ltb (get_or bs k d).time b.time (omega (arith, after, same))) in
      rw (le-ltb a.time b.time (omega (arith, same)), eq-eqb a.time b.time same, later) (omega arith)
  up_to (a ∷ bs) (suc number) b up there =
      let within : number < length bs = slice_get_within bs number b there in
      let is : get_or bs number b ≡ b = get_or_from_slice_get bs number b b there in
      let first : a.time < (get_or bs number b).time = up.pairs 0 (suc number) b (omega arith) (omega (arith, within)) in
      let before : a.time < b.time = rw is at first in
      let rest = up_to bs number b (rise-rest a bs up) there in
      rw (lt-ltb a.time b.time before, ne_eqb a.time b.time (λ e. omega (arith, e, before)))
      (omega (arith, rest, size_more a (earlier bs b.time), size_more a (take (suc number) bs)))

-- ---- the actions among the events

module _ (p : Plan) (serve : ℕ → Option Instance) where
  -- an end has no action
  ends_none : (t : ℕ) → actions (end_events_at p serve t) ≡ 0
  ends_none zero = refl
  ends_none (suc t) = end_none p serve (serve t) (suc t)

  no_ticks : actions (events_before p serve 0) ≡ 0
  unfolding events_before
  no_ticks = refl

  -- among the events before a time are the actions of the batches before it
  before_actions : (t : ℕ) → actions (events_before p serve t) ≡ size p.diagram.links (earlier p.batches t)
  before_actions zero = no_ticks ∙ sym (ap (size p.diagram.links) (filter-none (λ b. nat_lt b.time 0) p.batches (λ k d less. le-ltb (get_or p.batches k d).time 0 (omega arith))))
  before_actions (suc t) =
      let ends : List Event = end_events_at p serve t in
      let releases : List Event = release_events_at p p.batches t in
      let steps : List Event = service_events_of p serve (serve t) t in
      let all = ap actions (next_events p serve t) in
      let released : actions releases ≡ size p.diagram.links (due p.batches t) = batches_actions p (due p.batches t) in
      omega
      (arith, all, actions-append (events_before p serve t) (ends ++ (releases ++ steps)), actions-append ends (releases ++ steps), actions-append releases steps, before_actions t, ends_none t, released, service_none p serve (serve t) t, tick_more p.diagram.links p.batches t)

  -- and among those up to a batch are the actions of the batches up to it
  so_far_actions : (number : ℕ) (b : Batch) → slice_get p.batches number ≡ Some b
      → actions (events_so_far p serve (suc number) b.time) ≡ size p.diagram.links (take (suc number) p.batches)
  so_far_actions number b there =
      let ends : List Event = end_events_at p serve b.time in
      let releases : List Event = release_events_at p (take (suc number) p.batches) b.time in
      let released : actions releases ≡ size p.diagram.links (due (take (suc number) p.batches) b.time) = batches_actions p (due (take (suc number) p.batches) b.time) in
      omega
      (arith, actions-append (events_before p serve b.time) (ends ++ releases), actions-append ends releases, before_actions b.time, ends_none b.time, released, up_to p.diagram.links p.batches number b (rise p.batches p.rules.rising) there)

  -- the events up to a later tick are those up to the release of so many batches, then others
  parted_after : (number t k : ℕ) → (more : List Event) × (events_before p serve (t + suc k) ≡ events_so_far p serve number t ++ more)
  parted_after number t k =
      let (more, is) = events_on p serve t k in
      let before : List Event = events_before p serve t in
      let ends : List Event = end_events_at p serve t in
      let first : List Event = release_events_at p (take number p.batches) t in
      let second : List Event = release_events_at p (drop number p.batches) t in
      let steps : List Event = service_events_of p serve (serve t) t in
      let parts : release_events_at p p.batches t ≡ first ++ second =
      ap (λ (l : List Batch). release_events_at p l t) (sym (take-append-drop number p.batches)) ∙ releases-append p (take number p.batches) (drop number p.batches) t in
      let own : events_at p serve t ++ more ≡ (ends ++ first) ++ ((second ++ steps) ++ more) =
      ap (λ (l : List Event). (ends ++ (l ++ steps)) ++ more) parts
      ∙ ap (λ (l : List Event). (ends ++ l) ++ more) (append_assoc first second steps)
      ∙ ap (λ (l : List Event). l ++ more) (sym (append_assoc ends first (second ++ steps)))
      ∙ append_assoc (ends ++ first) (second ++ steps) more in (
        (second ++ steps) ++ more,
        is ∙ ap (λ (l : List Event). before ++ l) own ∙ sym (append_assoc before (ends ++ first) ((second ++ steps) ++ more)),
      )

-- ---- the front of the list

pub stands_after : (p : Plan) (script : List Step) (number : ℕ) (b : Batch) → IsRecord p script → slice_get p.batches number ≡ Some b → StandsAfterBatch p script number b.time
stands_after p script number b r there =
    let w : Wiring = wiring_of p Ranked in
    let within : number < length p.batches = slice_get_within p.batches number b there in
    let is : get_or p.batches number b ≡ b = get_or_from_slice_get p.batches number b b there in
    let known : (get_or p.batches number b).time ≤ r.last = r.released number b within in
    let come : b.time ≤ r.last = rw is at known in
    let until : b.time + suc (r.last - b.time) ≡ r.last + 1 = omega (arith, come) in
    let (more, parted) = parted_after p (service p) (number + 1) b.time (r.last - b.time) in
    let all : events_before p (service p) (r.last + 1) ≡ events_so_far p (service p) (number + 1) b.time ++ more =
    ap (events_before p (service p)) (sym until) ∙ parted in
    let (front, rest, state, list, plays, later) = plays_apart p w (events_so_far p (service p) (number + 1) b.time) more script (start_of p w) r.state
    (subst (λ (l : List Event). Plays p (wiring_of p Ranked) (start_of p (wiring_of p Ranked)) l script r.state) all r.plays) in
    let one : suc number ≡ number + 1 = omega arith in
    let made : actions (events_so_far p (service p) (number + 1) b.time) ≡ size p.diagram.links (take (number + 1) p.batches) =
    subst (λ (n : ℕ). actions (events_so_far p (service p) n b.time) ≡ size p.diagram.links (take n p.batches)) one (so_far_actions p (service p) number b there) in
    let place = place_of_play p w (events_so_far p (service p) (number + 1) b.time) front (start_of p w) state plays in
    record {
      front = front;
      rest = rest;
      list = list;
      state = state;
      plays = plays;
      released = place ∙ (let z : 0 + actions (events_so_far p (service p) (number + 1) b.time) ≡ actions (events_so_far p (service p) (number + 1) b.time) = omega arith in z) ∙ made;
    }

-- and there is one such front
pub one_front : (p : Plan) (script : List Step) (number time : ℕ) (a b : StandsAfterBatch p script number time) → a.front ≡ b.front
one_front p script number time a b =
    one_play p (wiring_of p Ranked) (events_so_far p (service p) (number + 1) time) a.front b.front (start_of p (wiring_of p Ranked)) a.state b.state a.plays b.plays
