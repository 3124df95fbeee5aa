-- The releaser's place after steps that play events: it grows by the aims, claims and opens among them.
use Rattle.std.specs.Prelude.{◌==◌, replicate}
use Rattle.std.proofs.Common.{◌≡◌, ℕ, zero, suc, ◌+◌, List, [], ◌∷◌, ◌++◌, length, map, inl, inr, refl, sym, ap, ◌∙◌, arith, length-append}
use Rattle.std.specs.List.{flat_map, range_with_len}
use Rattle.std.proofs.lemmas.Bool.{cases_Bool}
use Rattle.std.proofs.lemmas.List.{length-map}
use Rattle.dbp_plan.specs.declared.plan.Plan.{Plan}
use Rattle.dbp_plan.specs.declared.schedule.Batch.{Batch}
use Rattle.dbp_plan.specs.Lookups.{declared_task}
use Rattle.dbp_plan.specs.Occurrences.{time_of}
use Rattle.release_list.specs.declared.release.Release.TheVariants as release
use Rattle.release_list.specs.Releases.{claims_into, claims_of, links_into, releases_at, releases_of}
use Rattle.release_list.proofs.BatchStarts.{length-releases_at}
use Rattle.dbp_rules.specs.Rules.{next}
use Rattle.dbp_rules.specs.declared.state.State.{State}
use Rattle.dbp_rules.specs.declared.step.Step.{Step}
use Rattle.dbp_rules.specs.declared.step.Step.TheVariants.{Seen, Aim, Claim, OpenGate, Start, Hear, Look, Take, Shut, Put, Done, End}
use Rattle.dbp_rules.specs.declared.wiring.Wiring.{Wiring}
use Rattle.instance_steps.specs.Events.{Event, aim_of, step_of, aim_events, batch_events, begin_events, claim_events, end_events, look_events, put_events, read_events, reads_at}
use Rattle.instance_steps.specs.Plays.{IsStepOf, Plays}

-- how many actions of the releaser a step makes, an event, and a list of events
abbrev pub actions_in : Step → ℕ
actions_in (Seen i) = 0
actions_in (Aim i slot) = 1
actions_in (Claim k) = 1
actions_in (OpenGate i) = 1
actions_in (Start i) = 0
actions_in (Hear i) = 0
actions_in (Look i r) = 0
actions_in (Take i r) = 0
actions_in (Shut i) = 0
actions_in (Put i port) = 0
actions_in (Done i) = 0
actions_in (End i) = 0

abbrev pub actions_of : Event → ℕ
actions_of (step_of e) = actions_in e
actions_of (aim_of i) = 1

abbrev pub actions : List Event → ℕ
actions [] = 0
actions (v ∷ vs) = actions_of v + actions vs

-- ---- steps

stays : (n : ℕ) → n ≡ n + 0
stays n = omega arith

-- a step moves the releaser on by the actions that it makes
place_next : (p : Plan) (w : Wiring) (s : State) (e : Step) → (next p w s e).releaser.place ≡ s.releaser.place + actions_in e
place_next p w s (Seen i) = stays s.releaser.place
place_next p w s (Aim i slot) = refl
place_next p w s (Claim k) = refl
place_next p w s (OpenGate i) = refl
place_next p w s (Start i) = stays s.releaser.place
place_next p w s (Hear i) = stays s.releaser.place
place_next p w s (Look i r) = stays s.releaser.place
place_next p w s (Take i r) = stays s.releaser.place
place_next p w s (Shut i) = stays s.releaser.place
place_next p w s (Put i port) = stays s.releaser.place
place_next p w s (Done i) = stays s.releaser.place
place_next p w s (End i) = stays s.releaser.place

-- and it makes as many as its event
same_actions : (w : Wiring) (s : State) (v : Event) (e : Step) → IsStepOf w s v e → actions_in e ≡ actions_of v
same_actions w s (step_of x) e is = ap actions_in is
same_actions w s (aim_of i) e is = ap actions_in is.1

-- so steps that play events move it on by the actions among them
pub place_of_play : (p : Plan) (w : Wiring) (vs : List Event) (es : List Step) (s t : State) → Plays p w s vs es t → t.releaser.place ≡ s.releaser.place + actions vs
place_of_play p w [] [] s t same = ap (λ (x : State). x.releaser.place) same ∙ stays s.releaser.place
place_of_play p w [] (e ∷ es) s t none = absurd none
place_of_play p w (v ∷ vs) [] s t none = absurd none
place_of_play p w (v ∷ vs) (e ∷ es) s t plays =
    let rest = place_of_play p w vs es (next p w s e) t plays.2 in
    let one = place_next p w s e in
    let same = same_actions w s v e plays.0 in
    omega (arith, rest, one, same)

-- ---- lists of events

pub actions-append : (vs us : List Event) → actions (vs ++ us) ≡ actions vs + actions us
actions-append [] us = let z : 0 + actions us ≡ actions us = omega arith in sym z
actions-append (v ∷ vs) us = let rest = actions-append vs us in omega (arith, rest)

-- events that are no actions, and events that are one each

none-map : {A : Type 0} (f : A → Event) (xs : List A) → ((x : A) → actions_of (f x) ≡ 0) → actions (map f xs) ≡ 0
none-map f [] none = refl
none-map f (x ∷ xs) none = omega (arith, none x, none-map f xs none)

one-map : {A : Type 0} (f : A → Event) (xs : List A) → ((x : A) → actions_of (f x) ≡ 1) → actions (map f xs) ≡ length xs
one-map f [] one = refl
one-map f (x ∷ xs) one = omega (arith, one x, one-map f xs one)

none-flat_map : {A : Type 0} (f : A → List Event) (xs : List A) → ((x : A) → actions (f x) ≡ 0) → actions (flat_map f xs) ≡ 0
none-flat_map f [] none = refl
none-flat_map f (x ∷ xs) none = omega (arith, none x, none-flat_map f xs none, actions-append (f x) (flat_map f xs))

one-flat_map : {A : Type 0} (f : A → List Event) (xs : List A) → ((x : A) → actions (f x) ≡ 1) → actions (flat_map f xs) ≡ length xs
one-flat_map f [] one = refl
one-flat_map f (x ∷ xs) one = omega (arith, one x, one-flat_map f xs one, actions-append (f x) (flat_map f xs))

-- as many events as another list has items
actions-flat_map : {A B : Type 0} (f : A → List Event) (g : A → List B) (xs : List A) → ((x : A) → actions (f x) ≡ length (g x)) → actions (flat_map f xs) ≡ length (flat_map g xs)
actions-flat_map f g [] same = refl
actions-flat_map f g (x ∷ xs) same = omega (arith, same x, actions-flat_map f g xs same, actions-append (f x) (flat_map f xs), length-append (g x) (flat_map g xs))

none-replicate : (n : ℕ) (v : Event) → actions_of v ≡ 0 → actions (replicate n v) ≡ 0
none-replicate zero v none = refl
none-replicate (suc n) v none = omega (arith, none, none-replicate n v none)

-- ---- the release of batches

-- a task's aim is one action, whether or not the releaser first loads how many have ended
one_aim : (p : Plan) (time i : ℕ) → actions (aim_events p time i) ≡ 1
one_aim p time i = elim (cases_Bool (time_of p.batches i 1 == time)) [
  | inl first ↦ rw first refl
  | inr later ↦ rw later refl
]

-- a batch has as many actions among its events as in the releaser's list
batch_actions : (p : Plan) (b : Batch) → actions (batch_events p b) ≡ length (releases_at p.diagram.links b)
batch_actions p b =
    let aims : List Event = flat_map (aim_events p b.time) b.tasks in
    let claims : List Event = flat_map (claim_events p) b.tasks in
    let opens : List Event = map (λ i. step_of (OpenGate i)) b.tasks in
    let all = actions-append aims (claims ++ opens) in
    let later = actions-append claims opens in
    let aimed : actions aims ≡ length b.tasks = one-flat_map (aim_events p b.time) b.tasks (one_aim p b.time) in
    let claimed : actions claims ≡ length (claims_of p.diagram.links b.tasks) = actions-flat_map (claim_events p) (claims_into p.diagram.links) b.tasks
    (λ i. one-map (λ k. step_of (Claim k)) (links_into p.diagram.links i) (λ k. refl) ∙ sym (length-map (links_into p.diagram.links i) release.Claim)) in
    let opened : actions opens ≡ length b.tasks = one-map (λ i. step_of (OpenGate i)) b.tasks (λ i. refl) in
    omega (arith, all, later, aimed, claimed, opened, length-releases_at p.diagram.links b)

pub batches_actions : (p : Plan) (bs : List Batch) → actions (flat_map (batch_events p) bs) ≡ length (releases_of p.diagram.links bs)
batches_actions p bs = actions-flat_map (batch_events p) (releases_at p.diagram.links) bs (batch_actions p)

-- ---- an instance, which makes no action of the releaser

module _ (p : Plan) (i : ℕ) where
  pub begin_actions : actions (begin_events p i) ≡ 0
  begin_actions = let heard = none-replicate (1 + length (links_into p.diagram.links i)) (step_of (Hear i)) refl in omega (arith, heard)

  pub read_actions : (served : ℕ) → actions (read_events p i served) ≡ 0
  read_actions served = none-flat_map (look_events i) (reads_at (declared_task p i).reads served) (λ r. refl)

  pub end_actions : actions (end_events p i) ≡ 0
  end_actions =
      let puts : List Event = put_events i (length (declared_task p i).outs) in
      let none : actions puts ≡ 0 = none-map (λ port. step_of (Put i port)) (range_with_len 0 (length (declared_task p i).outs)) (λ port. refl) in
      omega (arith, none, actions-append puts (step_of (Done i) ∷ step_of (End i) ∷ []))
