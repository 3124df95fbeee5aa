-- For each batch that comes next there is a recorder that has released it.
use Rattle.std.proofs.Common.{◌≡◌, ◌≢◌, ℕ, ◌+◌, ◌<◌, false, length, get_or, map, slice_get, Some, refl, sym, ◌∙◌, subst, arith, inl, inr}
use Rattle.std.specs.List.{flat_map}
use Rattle.std.proofs.lemmas.Bool.{cases_eq}
use Rattle.dbp_plan.specs.declared.plan.Plan.{Plan}
use Rattle.dbp_plan.specs.Occurrences.{names, time_of}
use Rattle.release_list.specs.declared.release.Release.TheVariants as release
use Rattle.release_list.specs.Releases.{batch_start, claims_of}
use Rattle.dbp_rules.specs.Lookups.{task, task_entry, wired_task}
use Rattle.dbp_rules.specs.Promises.{IsLeastAim}
use Rattle.dbp_rules.specs.declared.step.Step.TheVariants.{Seen, Aim, Claim, OpenGate}
use Rattle.dbp_rules.specs.declared.wiring.Wiring.{Wiring}
use Rattle.dbp_rules.proofs.FreeAims.{some_aim}
use Rattle.instance_steps.specs.Events.{aim_events, batch_events, claim_events, seen_events, step_of}
use Rattle.instance_steps.specs.Recorders.{AddsSteps, count_in, plan_in, state_in, table_in, wiring_in}
use Rattle.instance_steps.specs.Releases.{AddsRelease, HasEnded, HasReleased, ReleasesBatch, batch_at}
use Rattle.instance_steps.specs.declared.recorder.Recorder.{Recorder}
use Rattle.instance_steps.proofs.Adding.{wired_there}
use Rattle.instance_steps.proofs.Aimed as aimed
use Rattle.instance_steps.proofs.AimedTasks as aims
use Rattle.instance_steps.proofs.AimedTasks.{HasAimed, KeepsEntries, tasks_of, time_at}
use Rattle.instance_steps.proofs.ClaimedLinks as claims
use Rattle.instance_steps.proofs.ClaimedLinks.{HasClaimed, HasClaimedTasks, into_of}
use Rattle.instance_steps.proofs.OpenedGates as opens
use Rattle.instance_steps.proofs.OpenedGates.{HasOpened}
use Rattle.instance_steps.proofs.Released.{releases, whole}
use Rattle.instance_steps.proofs.SomeSteps.{some_rounds, some_step}

-- ---- an aim

module _ (a : Recorder) (i time : ℕ) (next_ : slice_get (wiring_in a).releases (state_in a).releaser.place ≡ Some (release.Aim i)) (ended : (task (state_in a) i).part.ended ≡ (task_entry (state_in a) i).aimed)
    (first : time_of (plan_in a).batches i 1 ≡ time → (task_entry (state_in a) i).aimed ≡ 0) where
  -- what comes before it
  some_seen : (b : Recorder) × AddsRelease a b (seen_events (plan_in a) time i) (state_in a).releaser.place × ((task_entry (state_in b) i).aimed ≡ (task_entry (state_in b) i).known)
      × ((j : ℕ) → j ≢ i → task_entry (state_in b) j ≡ task_entry (state_in a) j) × (table_in b ≡ table_in a)
  some_seen = elim (cases_eq (time_of (plan_in a).batches i 1) time) [
    | inl now ↦ (a, aimed.unseen a i next_ time ended now, aimed.unseen_known a i next_ time ended (first now), (λ j other. refl), refl)
    | inr later ↦
        let (b, step, same) = some_step a (Seen i) (aimed.see_may a i next_ time ended) in
        (b, aimed.see_adds a i next_ time ended b step later, aimed.see_known a i next_ time ended b step, aimed.see_others a i next_ time ended b step, same)
  ]

  -- a slot is free
  some_slot : (b : Recorder) → slice_get (wiring_in b).releases (state_in b).releaser.place ≡ Some (release.Aim i) → (task_entry (state_in b) i).aimed ≡ (task_entry (state_in b) i).known
      → (slot : ℕ) × IsLeastAim (wiring_in b) (state_in b) i slot
  some_slot b here known =
      let there : i < length (wiring_in b).tasks = wired_there b i (aimed.aim_named b i here) in
      let kept : length (task_entry (state_in b) i).kept ≡ (wired_task (wiring_in b) i).kept = (b.core.shape.each_entry i there).kept in
      subst (λ (w : Wiring). (slot : ℕ) × IsLeastAim w (state_in b) i slot) (sym b.core.wired)
      (some_aim (plan_in b) (count_in b) (state_in b).releaser i
      (subst (λ (w : Wiring). length (task_entry (state_in b) i).kept ≡ (wired_task w i).kept) b.core.wired kept)
      (subst (λ (w : Wiring). slice_get w.releases (state_in b).releaser.place ≡ Some (release.Aim i)) b.core.wired here) known)

  some_aimed : (b : Recorder) × AddsRelease a b (aim_events (plan_in a) time i) ((state_in a).releaser.place + 1)
      × ((j : ℕ) → j ≢ i → task_entry (state_in b) j ≡ task_entry (state_in a) j) × (table_in b ≡ table_in a)
  some_aimed =
      let (b, seen, known, others, same) = some_seen in
      let (slot, least) = some_slot b (aimed.aim_next a i next_ b time seen) known in
      let (c, step, also) = some_step b (Aim i slot) (aimed.aim_allowed a i next_ b time seen slot least) in
      (c, aimed.aim_adds a i next_ b time seen slot least c step, aimed.aim_keeps a i next_ b time seen slot least c step others, also ∙ same)

-- ---- the claims of the links into a task

some_claimed : (a : Recorder) (i : ℕ) → i < length (plan_in a).diagram.tasks
    → ((n : ℕ) → n < length (into_of a i) → slice_get (wiring_in a).releases ((state_in a).releaser.place + n) ≡ Some (release.Claim (get_or (into_of a i) n 0)))
    → (b : Recorder) × AddsRelease a b (claim_events (plan_in a) i) ((state_in a).releaser.place + length (into_of a i)) × ((state_in b).releaser.tasks ≡ (state_in a).releaser.tasks) × (table_in b ≡ table_in a)
some_claimed a i named next_ =
    let (b, made, same) = some_rounds
    (λ b n. HasClaimed a i b n × ((state_in b).releaser.tasks ≡ (state_in a).releaser.tasks)) a (length (into_of a i))
    (claims.claimed_none a i named next_, refl)
    (λ b n below so_far.
    let (c, step, kept) = some_step b (Claim (get_or (into_of a i) n 0)) (claims.link_may a i named next_ b n below so_far.0) in
    (c, (claims.claimed_more a i named next_ b n below so_far.0 c step, claims.claimed_entries a i named next_ b n below so_far.0 c step ∙ so_far.1), kept))
    (length (into_of a i)) (omega arith) in
    (b, claims.claimed_all a i named next_ b (length (into_of a i)) refl made.0, made.1, same)

-- ---- the parts of a batch

module _ (a : Recorder) (number : ℕ) (there : number < length (plan_in a).batches) where
  some_aims : HasReleased (plan_in a) (state_in a) number → HasEnded (state_in a) (batch_at (plan_in a) number)
      → (b : Recorder) × AddsRelease a b (flat_map (aim_events (plan_in a) (batch_at (plan_in a) number).time) (batch_at (plan_in a) number).tasks) ((state_in a).releaser.place + length (batch_at (plan_in a) number).tasks)
      × ((j : ℕ) → names j (batch_at (plan_in a) number) ≡ false → task_entry (state_in b) j ≡ task_entry (state_in a) j) × (table_in b ≡ table_in a)
  some_aims released ended =
      let (b, made, same) = some_rounds
      (λ b n. HasAimed a number b n × KeepsEntries a number b n) a (length (tasks_of a number))
      (aims.aimed_none a number there released ended, λ j apart. refl)
      (λ b n below so_far.
      let (c, one, others, kept) = some_aimed b (get_or (tasks_of a number) n 0) (time_at a number)
      (aims.next_aim a number there released ended b n below so_far.0 so_far.1) (aims.next_ended a number there released ended b n below so_far.0 so_far.1) (aims.next_first a number there released ended b n below so_far.0 so_far.1) in
      (c, (aims.aimed_more a number there released ended b n below so_far.0 so_far.1 c one, aims.entries_more a number there released ended b n below so_far.0 so_far.1 c one others), kept))
      (length (tasks_of a number)) (omega arith) in
      (b, aims.aimed_all a number there released ended b (length (tasks_of a number)) refl made.0, aims.entries_all a number there released ended b (length (tasks_of a number)) refl made.1, same)

  some_claims : (state_in a).releaser.place ≡ batch_start (plan_in a).diagram.links (plan_in a).batches number + length (batch_at (plan_in a) number).tasks
      → (b : Recorder) × AddsRelease a b (flat_map (claim_events (plan_in a)) (batch_at (plan_in a) number).tasks) ((state_in a).releaser.place + length (claims_of (plan_in a).diagram.links (batch_at (plan_in a) number).tasks))
      × ((state_in b).releaser.tasks ≡ (state_in a).releaser.tasks) × (table_in b ≡ table_in a)
  some_claims next_ =
      let (b, made, same) = some_rounds
      (λ b n. HasClaimedTasks a number b n × ((state_in b).releaser.tasks ≡ (state_in a).releaser.tasks)) a (length (tasks_of a number))
      (claims.tasks_none a number there next_, refl)
      (λ b n below so_far.
      let (c, one, entries, kept) = some_claimed b (get_or (tasks_of a number) n 0) (claims.next_named a number there next_ b n below so_far.0) (claims.next_claims a number there next_ b n below so_far.0) in
      (c, (claims.tasks_more a number there next_ b n below so_far.0 c one, entries ∙ so_far.1), kept))
      (length (tasks_of a number)) (omega arith) in
      (b, claims.tasks_all a number there next_ b (length (tasks_of a number)) refl made.0, made.1, same)

  some_gates : (state_in a).releaser.place ≡ batch_start (plan_in a).diagram.links (plan_in a).batches number + length (batch_at (plan_in a) number).tasks + length (claims_of (plan_in a).diagram.links (batch_at (plan_in a) number).tasks)
      → (b : Recorder) × AddsRelease a b (map (λ i. step_of (OpenGate i)) (batch_at (plan_in a) number).tasks) ((state_in a).releaser.place + length (batch_at (plan_in a) number).tasks)
      × ((state_in b).releaser.tasks ≡ (state_in a).releaser.tasks) × (table_in b ≡ table_in a)
  some_gates next_ =
      let (b, made, same) = some_rounds
      (λ b n. HasOpened a number b n × ((state_in b).releaser.tasks ≡ (state_in a).releaser.tasks)) a (length (tasks_of a number))
      (opens.opened_none a number there next_, refl)
      (λ b n below so_far.
      let (c, step, kept) = some_step b (OpenGate (get_or (tasks_of a number) n 0)) (opens.gate_may a number there next_ b n below so_far.0) in
      (c, (opens.opened_more a number there next_ b n below so_far.0 c step, opens.opened_entries a number there next_ b n below so_far.0 c step ∙ so_far.1), kept))
      (length (tasks_of a number)) (omega arith) in
      (b, opens.opened_all a number there next_ b (length (tasks_of a number)) refl made.0, made.1, same)

-- ---- the whole release

pub some_release : (a : Recorder) (number : ℕ) → number < length (plan_in a).batches → HasReleased (plan_in a) (state_in a) number → HasEnded (state_in a) (batch_at (plan_in a) number)
    → (d : Recorder) × AddsSteps a d (batch_events (plan_in a) (batch_at (plan_in a) number)) × ReleasesBatch (plan_in a) (state_in a) (state_in d) number (batch_at (plan_in a) number) × (table_in d ≡ table_in a)
some_release a number there released ended =
    let (b, aims_, others, one) = some_aims a number there released ended in
    let plan_b : plan_in b ≡ plan_in a = aims_.steps.plan in
    let there_b : number < length (plan_in b).batches = subst (λ (p : Plan). number < length p.batches) (sym plan_b) there in
    let place_b : (state_in b).releaser.place ≡ batch_start (plan_in a).diagram.links (plan_in a).batches number + length (batch_at (plan_in a) number).tasks = omega (arith, aims_.moves.place, released) in
    let next_b : (state_in b).releaser.place ≡ batch_start (plan_in b).diagram.links (plan_in b).batches number + length (batch_at (plan_in b) number).tasks =
    subst (λ (p : Plan). (state_in b).releaser.place ≡ batch_start p.diagram.links p.batches number + length (batch_at p number).tasks) (sym plan_b) place_b in
    let (c, claims_, entries_c, two) = some_claims b number there_b next_b in
    let plan_c : plan_in c ≡ plan_in b = claims_.steps.plan in
    let there_c : number < length (plan_in c).batches = subst (λ (p : Plan). number < length p.batches) (sym plan_c) there_b in
    let place_c : (state_in c).releaser.place ≡ batch_start (plan_in b).diagram.links (plan_in b).batches number + length (batch_at (plan_in b) number).tasks + length (claims_of (plan_in b).diagram.links (batch_at (plan_in b) number).tasks) = omega (arith, claims_.moves.place, next_b) in
    let next_c : (state_in c).releaser.place ≡ batch_start (plan_in c).diagram.links (plan_in c).batches number + length (batch_at (plan_in c) number).tasks + length (claims_of (plan_in c).diagram.links (batch_at (plan_in c) number).tasks) =
    subst (λ (p : Plan). (state_in c).releaser.place ≡ batch_start p.diagram.links p.batches number + length (batch_at p number).tasks + length (claims_of p.diagram.links (batch_at p number).tasks)) (sym plan_c) place_c in
    let (d, opens_, entries_d, three) = some_gates c number there_c next_c in (
      d,
      (whole a b c d number there released ended aims_ claims_ opens_).steps,
      releases a b c d number there released ended aims_ claims_ opens_ others entries_c entries_d,
      three ∙ two ∙ one,
    )
