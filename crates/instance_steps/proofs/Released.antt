-- The whole release of a batch.
use Rattle.std.proofs.Common.{◌≡◌, ℕ, ◌+◌, ◌*◌, ◌<◌, ◌≤◌, true, false, List, [], ◌∷◌, ◌++◌, length, map, filter, get_or, take, refl, sym, ap, ◌∙◌, subst, arith, length-append}
use Rattle.std.specs.List.{flat_map}
use Rattle.std.proofs.Math.Logic.{∥∥₁_elim}
use Rattle.std.proofs.Props.{props}
use Rattle.std.proofs.lemmas.List.{length-map, map-append, take_more}
use Rattle.std.proofs.lemmas.List.Concat.{flat_map-cons}
use Rattle.std.proofs.lemmas.List.Elements.{filter-append}
use Rattle.dbp_plan.specs.declared.plan.Plan.{Plan}
use Rattle.dbp_plan.specs.declared.schedule.Batch.{Batch}
use Rattle.dbp_plan.specs.Occurrences.{names, times_of}
use Rattle.release_list.specs.Releases.{claims_of, links_into}
use Rattle.release_list.specs.Schedule.{aims, opens}
use Rattle.release_list.proofs.BatchStarts.{aims_at_start, length-releases_at, opens_at_start, start_next}
use Rattle.release_list.proofs.IntoLinks.{into_few}
use Rattle.dbp_rules.specs.Lookups.{no_task_entry, task, task_entry}
use Rattle.dbp_rules.specs.Wired.{wiring_of}
use Rattle.dbp_rules.specs.declared.parts.TaskEntry.{TaskEntry}
use Rattle.dbp_rules.specs.declared.parts.TaskPart.{TaskPart}
use Rattle.dbp_rules.specs.declared.wiring.Wiring.{Wiring}
use Rattle.dbp_rules.specs.declared.step.Step.TheVariants.{Claim, OpenGate}
use Rattle.instance_steps.specs.Events.{Event, aim_events, aim_of, batch_events, claim_events, seen_events, step_of}
use Rattle.instance_steps.specs.Recorders.{AddsSteps, count_in, plan_in, state_in, steps_in}
use Rattle.instance_steps.specs.Releases.{AddsRelease, HasEnded, HasReleased, ReleasesBatch, batch_at, no_batch}
use Rattle.instance_steps.specs.declared.recorder.Recorder.{Recorder}
use Rattle.instance_steps.proofs.Adding.{steps_long, wired_there}
use Rattle.instance_steps.proofs.Aimed.{seen_few}
use Rattle.instance_steps.proofs.BatchTasks.{batch_there}
use Rattle.instance_steps.proofs.ReleaserMoves.{release_on}

-- if so many batches are released, as many instances of each task are aimed, and may start, as they name it
module _ (r : Recorder) (number : ℕ) (released : HasReleased (plan_in r) (state_in r) number) (i : ℕ) (named : i < length (plan_in r).diagram.tasks) where
  pub aimed_there : (task_entry (state_in r) i).aimed ≡ length (times_of (take number (plan_in r).batches) i)
  aimed_there =
      r.core.shape.aimed i (wired_there r i named)
      ∙ ap (λ (w : Wiring). aims w.releases (state_in r).releaser.place i) r.core.wired
      ∙ ap (λ (k : ℕ). aims (wiring_of (plan_in r) (count_in r)).releases k i) released
      ∙ aims_at_start (plan_in r).diagram.links (plan_in r).batches (plan_in r).rules.in_order number i

  pub gate_there : (task (state_in r) i).words.gate ≡ length (times_of (take number (plan_in r).batches) i)
  gate_there =
      ∥∥₁_elim r.core.sound (hlevel props) (λ sound. sound.gates i (wired_there r i named))
      ∙ ap (λ (w : Wiring). opens w.releases (state_in r).releaser.place i) r.core.wired
      ∙ ap (λ (k : ℕ). opens (wiring_of (plan_in r) (count_in r)).releases k i) released
      ∙ opens_at_start (plan_in r).diagram.links (plan_in r).batches (plan_in r).rules.in_order number i

-- a batch that names the task has one instance more of it
times_more : (bs : List Batch) (number i : ℕ) → number < length bs → names i (get_or bs number no_batch) ≡ true → length (times_of (take (number + 1) bs) i) ≡ length (times_of (take number bs) i) + 1
times_more bs number i there named =
    let last : times_of (get_or bs number no_batch ∷ []) i ≡ (get_or bs number no_batch).time ∷ [] = rw named refl in
    let cut : times_of (take (number + 1) bs) i ≡ times_of (take number bs) i ++ times_of (get_or bs number no_batch ∷ []) i =
    ap (λ (l : List Batch). times_of l i) (take_more bs number no_batch there) ∙ ap (map (λ b. b.time)) (filter-append (names i) (take number bs) (get_or bs number no_batch ∷ [])) ∙ map-append (λ (b : Batch). b.time) (filter (names i) (take number bs)) (filter (names i) (get_or bs number no_batch ∷ [])) in
    omega (arith, ap length cut, ap length last, length-append (times_of (take number bs) i) (times_of (get_or bs number no_batch ∷ []) i))

module _ (a b c d : Recorder) (number : ℕ) (there : number < length (plan_in a).batches) (released : HasReleased (plan_in a) (state_in a) number) (ended : HasEnded (state_in a) (batch_at (plan_in a) number))
    (aims_ : AddsRelease a b (flat_map (aim_events (plan_in a) (batch_at (plan_in a) number).time) (batch_at (plan_in a) number).tasks) ((state_in a).releaser.place + length (batch_at (plan_in a) number).tasks))
    (claims_ : AddsRelease b c (flat_map (claim_events (plan_in b)) (batch_at (plan_in b) number).tasks) ((state_in b).releaser.place + length (claims_of (plan_in b).diagram.links (batch_at (plan_in b) number).tasks)))
    (opens_ : AddsRelease c d (map (λ i. step_of (OpenGate i)) (batch_at (plan_in c) number).tasks) ((state_in c).releaser.place + length (batch_at (plan_in c) number).tasks)) where
  claims_a : AddsRelease b c (flat_map (claim_events (plan_in a)) (batch_at (plan_in a) number).tasks) ((state_in b).releaser.place + length (claims_of (plan_in a).diagram.links (batch_at (plan_in a) number).tasks))
  claims_a = subst (λ (p : Plan). AddsRelease b c (flat_map (claim_events p) (batch_at p number).tasks) ((state_in b).releaser.place + length (claims_of p.diagram.links (batch_at p number).tasks))) aims_.steps.plan claims_

  opens_a : AddsRelease c d (map (λ i. step_of (OpenGate i)) (batch_at (plan_in a) number).tasks) ((state_in c).releaser.place + length (batch_at (plan_in a) number).tasks)
  opens_a = subst (λ (p : Plan). AddsRelease c d (map (λ i. step_of (OpenGate i)) (batch_at p number).tasks) ((state_in c).releaser.place + length (batch_at p number).tasks)) (claims_.steps.plan ∙ aims_.steps.plan) opens_

  pub whole : AddsRelease a d (batch_events (plan_in a) (batch_at (plan_in a) number)) ((state_in c).releaser.place + length (batch_at (plan_in a) number).tasks)
  whole = release_on a b d _ _ _ _ aims_ (release_on b c d _ _ _ _ claims_a opens_a)

  plan_d : plan_in d ≡ plan_in a
  plan_d = whole.steps.plan

  released_a : HasReleased (plan_in a) (state_in d) (number + 1)
  released_a =
      omega
      (arith, opens_a.moves.place, claims_a.moves.place, aims_.moves.place, released, start_next (plan_in a).diagram.links (plan_in a).batches number (batch_at (plan_in a) number) (batch_there a number there), length-releases_at (plan_in a).diagram.links (batch_at (plan_in a) number))

  released_d : HasReleased (plan_in d) (state_in d) (number + 1)
  released_d = subst (λ (p : Plan). HasReleased p (state_in d) (number + 1)) (sym plan_d) released_a

  module _ (i : ℕ) (named : i < length (plan_in a).diagram.tasks) where
    named_d : i < length (plan_in d).diagram.tasks
    named_d = subst (λ (p : Plan). i < length p.diagram.tasks) (sym plan_d) named

    aimed_d : (task_entry (state_in d) i).aimed ≡ length (times_of (take (number + 1) (plan_in a).batches) i)
    aimed_d = aimed_there d (number + 1) released_d i named_d ∙ ap (λ (p : Plan). length (times_of (take (number + 1) p.batches) i)) plan_d

    gate_d : (task (state_in d) i).words.gate ≡ length (times_of (take (number + 1) (plan_in a).batches) i)
    gate_d = gate_there d (number + 1) released_d i named_d ∙ ap (λ (p : Plan). length (times_of (take (number + 1) p.batches) i)) plan_d

    part_ended : (task (state_in d) i).part.ended ≡ (task (state_in a) i).part.ended
    part_ended = ap (λ (t : TaskPart). t.ended) (whole.moves.parts i)

    known_d : names i (batch_at (plan_in a) number) ≡ true → (task_entry (state_in d) i).known ≡ (task (state_in a) i).part.ended
    known_d is =
        ∥∥₁_elim d.core.sound (hlevel props) (λ sound.
        let ok = sound.tasks i (wired_there d i named_d) in
        omega (arith, ok.known, ok.ended, ok.aimed, aimed_d, part_ended, ended i is, aimed_there a number released i named, times_more (plan_in a).batches number i there is))

  pub releases : ((j : ℕ) → names j (batch_at (plan_in a) number) ≡ false → task_entry (state_in b) j ≡ task_entry (state_in a) j) → (state_in c).releaser.tasks ≡ (state_in b).releaser.tasks → (state_in d).releaser.tasks ≡ (state_in c).releaser.tasks
      → ReleasesBatch (plan_in a) (state_in a) (state_in d) number (batch_at (plan_in a) number)
  releases others claimed opened = record {
    released = released_a;
    parts = whole.moves.parts;
    aimed = aimed_d;
    gates = gate_d;
    known = known_d;
    others = λ j not_. ap (λ (es : List TaskEntry). get_or es j no_task_entry) (opened ∙ claimed) ∙ others j not_;
  }

-- ---- how many steps

listed_few : (f : ℕ → List Event) (most : ℕ) → ((i : ℕ) → length (f i) ≤ most) → (xs : List ℕ) → length (flat_map f xs) ≤ length xs * most
listed_few f most few [] = omega arith
listed_few f most few (x ∷ xs) =
    let one : length (x ∷ xs) * most ≡ length xs * most + most = omega arith in
    omega (arith, one, few x, listed_few f most few xs, ap length (flat_map-cons f x xs), length-append (f x) (flat_map f xs))

aim_few : (p : Plan) (time i : ℕ) → length (aim_events p time i) ≤ 2
aim_few p time i = omega (arith, length-append (seen_events p time i) (aim_of i ∷ []), seen_few p time i)

claim_few : (p : Plan) (i : ℕ) → length (claim_events p i) ≤ length p.diagram.links
claim_few p i = omega (arith, length-map (links_into p.diagram.links i) (λ k. step_of (Claim k)), into_few p.diagram.links i (length p.diagram.links))

module _ (a b : Recorder) (number : ℕ) (adds : AddsSteps a b (flat_map (aim_events (plan_in a) (batch_at (plan_in a) number).time) (batch_at (plan_in a) number).tasks)) where
  pub aims_room : length (steps_in b) ≤ length (steps_in a) + length (batch_at (plan_in a) number).tasks * 2
  aims_room = omega (arith, steps_long a b _ adds, listed_few (aim_events (plan_in a) (batch_at (plan_in a) number).time) 2 (aim_few (plan_in a) (batch_at (plan_in a) number).time) (batch_at (plan_in a) number).tasks)

module _ (a b : Recorder) (number : ℕ) (adds : AddsSteps a b (flat_map (claim_events (plan_in a)) (batch_at (plan_in a) number).tasks)) where
  pub claims_room : length (steps_in b) ≤ length (steps_in a) + length (batch_at (plan_in a) number).tasks * length (plan_in a).diagram.links
  claims_room = omega (arith, steps_long a b _ adds, listed_few (claim_events (plan_in a)) (length (plan_in a).diagram.links) (claim_few (plan_in a)) (batch_at (plan_in a) number).tasks)
