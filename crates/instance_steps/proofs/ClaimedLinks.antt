-- The claims of a batch, link by link and task by task.
use Rattle.std.proofs.Common.{◌≡◌, ℕ, ◌+◌, ◌<◌, List, [], ◌∷◌, length, map, get_or, slice_get, take, Some, refl, sym, ap, ◌∙◌, subst, arith, length-append}
use Rattle.std.specs.List.{flat_map}
use Rattle.std.proofs.lemmas.List.{length-map, take_all}
use Rattle.dbp_plan.specs.declared.diagram.Link.{Link}
use Rattle.dbp_plan.specs.declared.plan.Plan.{Plan}
use Rattle.release_list.specs.declared.release.Release.TheVariants as release
use Rattle.release_list.specs.Releases.{batch_start, claims_into, claims_of, links_into}
use Rattle.dbp_rules.specs.Lookups.{wired_task}
use Rattle.dbp_rules.specs.declared.state.State.{State}
use Rattle.dbp_rules.specs.declared.step.Step.TheVariants.{Claim}
use Rattle.dbp_rules.specs.declared.wiring.TaskWiring.{TaskWiring}
use Rattle.dbp_rules.specs.declared.wiring.Wiring.{Wiring}
use Rattle.instance_steps.specs.Events.{Event, claim_events, step_of}
use Rattle.instance_steps.specs.Plays.{Moves}
use Rattle.instance_steps.specs.Recorders.{AddsStep, plan_in, state_in, wiring_in}
use Rattle.instance_steps.specs.Releases.{AddsRelease, batch_at}
use Rattle.instance_steps.specs.declared.recorder.Recorder.{Recorder}
use Rattle.instance_steps.proofs.Adding.{own_in, wired_in}
use Rattle.instance_steps.proofs.BatchTasks.{claim_listed, listed_more, map_more, task_named}
use Rattle.instance_steps.proofs.ReleaserMoves.{claim_may, claim_moves, release_as, release_none, release_on, release_step}

-- the links into the task, and the claims of the first n of them
abbrev pub into_of : Recorder → ℕ → List ℕ
into_of a i = links_into (plan_in a).diagram.links i

abbrev pub HasClaimed : Recorder → ℕ → Recorder → ℕ → Type 0
HasClaimed a i b n = AddsRelease a b (map (λ k. step_of (Claim k)) (take n (into_of a i))) ((state_in a).releaser.place + n)

-- the links that the code goes over
pub into_is : (a : Recorder) (i : ℕ) (t : TaskWiring) → i < length (plan_in a).diagram.tasks → t ≡ wired_task (wiring_in a) i → t.links ≡ into_of a i
into_is a i t named there = ap (λ (x : TaskWiring). x.links) there ∙ ap (λ (x : TaskWiring). x.links) (wired_in a i named)

module _ (a : Recorder) (i : ℕ) (named : i < length (plan_in a).diagram.tasks)
    (next_ : (n : ℕ) → n < length (into_of a i) → slice_get (wiring_in a).releases ((state_in a).releaser.place + n) ≡ Some (release.Claim (get_or (into_of a i) n 0))) where
  pub claimed_none : HasClaimed a i a 0
  claimed_none = release_as a a [] _ _ (omega arith) (release_none a)

  pub claimed_all : (b : Recorder) (n : ℕ) → n ≡ length (into_of a i) → HasClaimed a i b n → AddsRelease a b (claim_events (plan_in a) i) ((state_in a).releaser.place + length (into_of a i))
  claimed_all b n is adds =
      let whole : HasClaimed a i b (length (into_of a i)) = subst (λ (k : ℕ). HasClaimed a i b k) is adds in
      subst (λ (l : List ℕ). AddsRelease a b (map (λ k. step_of (Claim k)) l) ((state_in a).releaser.place + length (into_of a i))) (take_all (length (into_of a i)) (into_of a i) (omega arith)) whole

  module _ (b : Recorder) (n : ℕ) (below : n < length (into_of a i)) (adds : HasClaimed a i b n) where
    link_below : get_or (into_of a i) n 0 < length (plan_in a).diagram.links
    link_below = ((own_in a).whole.releases.at_claim ((state_in a).releaser.place + n) (get_or (into_of a i) n 0) (next_ n below)).named

    pub link_may : Moves (plan_in b) (wiring_in b) (state_in b) (Claim (get_or (into_of a i) n 0))
    link_may =
        claim_may (plan_in b) (wiring_in b) (state_in b) (get_or (into_of a i) n 0) (subst (λ (p : Plan). get_or (into_of a i) n 0 < length p.diagram.links) (sym adds.steps.plan) link_below)
        (ap (λ (w : Wiring). slice_get w.releases (state_in b).releaser.place) adds.steps.wiring ∙ ap (λ (k : ℕ). slice_get (wiring_in a).releases k) adds.moves.place ∙ next_ n below)

    module _ (c : Recorder) (step : AddsStep b c (Claim (get_or (into_of a i) n 0))) where
      pub claimed_more : HasClaimed a i c (n + 1)
      claimed_more =
          let one : AddsRelease b c (step_of (Claim (get_or (into_of a i) n 0)) ∷ []) ((state_in b).releaser.place + 1) =
          release_step b c _ _ _ step refl link_may (claim_moves (plan_in b) (wiring_in b) (state_in b) (get_or (into_of a i) n 0)) in
          subst (λ (vs : List Event). AddsRelease a c vs ((state_in a).releaser.place + (n + 1))) (sym (map_more (λ k. step_of (Claim k)) (into_of a i) n below))
          (release_on a b c _ _ _ _ adds (release_as b c _ _ _ (omega (arith, adds.moves.place)) one))

      pub claimed_entries : (state_in c).releaser.tasks ≡ (state_in b).releaser.tasks
      claimed_entries = ap (λ (s : State). s.releaser.tasks) step.state

-- ---- task by task

abbrev pub HasClaimedTasks : Recorder → ℕ → Recorder → ℕ → Type 0
HasClaimedTasks a number b n =
    AddsRelease a b (flat_map (claim_events (plan_in a)) (take n (batch_at (plan_in a) number).tasks)) ((state_in a).releaser.place + length (claims_of (plan_in a).diagram.links (take n (batch_at (plan_in a) number).tasks)))

module _ (a : Recorder) (number : ℕ) (there : number < length (plan_in a).batches)
    (next_ : (state_in a).releaser.place ≡ batch_start (plan_in a).diagram.links (plan_in a).batches number + length (batch_at (plan_in a) number).tasks) where
  pub tasks_none : HasClaimedTasks a number a 0
  tasks_none = release_as a a [] _ _ (omega arith) (release_none a)

  pub tasks_all : (b : Recorder) (n : ℕ) → n ≡ length (batch_at (plan_in a) number).tasks → HasClaimedTasks a number b n
      → AddsRelease a b (flat_map (claim_events (plan_in a)) (batch_at (plan_in a) number).tasks) ((state_in a).releaser.place + length (claims_of (plan_in a).diagram.links (batch_at (plan_in a) number).tasks))
  tasks_all b n is adds =
      let all : take n (batch_at (plan_in a) number).tasks ≡ (batch_at (plan_in a) number).tasks = take_all n (batch_at (plan_in a) number).tasks (omega (arith, is)) in
      subst (λ (l : List ℕ). AddsRelease a b (flat_map (claim_events (plan_in a)) l) ((state_in a).releaser.place + length (claims_of (plan_in a).diagram.links l))) all adds

  module _ (b : Recorder) (n : ℕ) (below : n < length (batch_at (plan_in a) number).tasks) (adds : HasClaimedTasks a number b n) where
    pub next_named : get_or (batch_at (plan_in a) number).tasks n 0 < length (plan_in b).diagram.tasks
    next_named = subst (λ (p : Plan). get_or (batch_at (plan_in a) number).tasks n 0 < length p.diagram.tasks) (sym adds.steps.plan) (task_named a number there n below)

    next_here : (j : ℕ) → j < length (into_of a (get_or (batch_at (plan_in a) number).tasks n 0))
        → slice_get (wiring_in a).releases ((state_in b).releaser.place + j) ≡ Some (release.Claim (get_or (into_of a (get_or (batch_at (plan_in a) number).tasks n 0)) j 0))
    next_here j inside =
        let at : (state_in b).releaser.place + j ≡ batch_start (plan_in a).diagram.links (plan_in a).batches number + (length (batch_at (plan_in a) number).tasks + (length (claims_of (plan_in a).diagram.links (take n (batch_at (plan_in a) number).tasks)) + j)) =
        omega (arith, adds.moves.place, next_) in
        ap (λ (k : ℕ). slice_get (wiring_in a).releases k) at ∙ claim_listed a number there n j below inside

    pub next_claims : (j : ℕ) → j < length (links_into (plan_in b).diagram.links (get_or (batch_at (plan_in a) number).tasks n 0))
        → slice_get (wiring_in b).releases ((state_in b).releaser.place + j) ≡ Some (release.Claim (get_or (links_into (plan_in b).diagram.links (get_or (batch_at (plan_in a) number).tasks n 0)) j 0))
    next_claims =
        subst (λ (p : Plan). (j : ℕ) → j < length (links_into p.diagram.links (get_or (batch_at (plan_in a) number).tasks n 0)) → slice_get (wiring_in b).releases ((state_in b).releaser.place + j) ≡ Some (release.Claim (get_or (links_into p.diagram.links (get_or (batch_at (plan_in a) number).tasks n 0)) j 0))) (sym adds.steps.plan)
        (subst (λ (w : Wiring). (j : ℕ) → j < length (into_of a (get_or (batch_at (plan_in a) number).tasks n 0)) → slice_get w.releases ((state_in b).releaser.place + j) ≡ Some (release.Claim (get_or (into_of a (get_or (batch_at (plan_in a) number).tasks n 0)) j 0))) (sym adds.steps.wiring) next_here)

    pub tasks_more : (c : Recorder) → AddsRelease b c (claim_events (plan_in b) (get_or (batch_at (plan_in a) number).tasks n 0)) ((state_in b).releaser.place + length (links_into (plan_in b).diagram.links (get_or (batch_at (plan_in a) number).tasks n 0)))
        → HasClaimedTasks a number c (n + 1)
    tasks_more c one =
        let links : List Link = (plan_in a).diagram.links in
        let here : AddsRelease b c (claim_events (plan_in a) (get_or (batch_at (plan_in a) number).tasks n 0)) ((state_in b).releaser.place + length (links_into (plan_in a).diagram.links (get_or (batch_at (plan_in a) number).tasks n 0))) =
        subst (λ (p : Plan). AddsRelease b c (claim_events p (get_or (batch_at (plan_in a) number).tasks n 0)) ((state_in b).releaser.place + length (links_into p.diagram.links (get_or (batch_at (plan_in a) number).tasks n 0)))) adds.steps.plan one in
        let size : length (claims_of (plan_in a).diagram.links (take (n + 1) (batch_at (plan_in a) number).tasks)) ≡ length (claims_of (plan_in a).diagram.links (take n (batch_at (plan_in a) number).tasks)) + length (links_into (plan_in a).diagram.links (get_or (batch_at (plan_in a) number).tasks n 0)) =
        omega
        (arith, ap length (listed_more (claims_into links) (batch_at (plan_in a) number).tasks n below), length-append (claims_of (plan_in a).diagram.links (take n (batch_at (plan_in a) number).tasks)) (claims_into (plan_in a).diagram.links (get_or (batch_at (plan_in a) number).tasks n 0)), length-map (links_into (plan_in a).diagram.links (get_or (batch_at (plan_in a) number).tasks n 0)) release.Claim) in
        let place_ : (state_in b).releaser.place + length (links_into (plan_in a).diagram.links (get_or (batch_at (plan_in a) number).tasks n 0)) ≡ (state_in a).releaser.place + length (claims_of (plan_in a).diagram.links (take (n + 1) (batch_at (plan_in a) number).tasks)) =
        omega (arith, adds.moves.place, size) in
        subst (λ (vs : List Event). AddsRelease a c vs ((state_in a).releaser.place + length (claims_of (plan_in a).diagram.links (take (n + 1) (batch_at (plan_in a) number).tasks)))) (sym (listed_more (claim_events (plan_in a)) (batch_at (plan_in a) number).tasks n below))
        (release_on a b c _ _ _ _ adds (release_as b c _ _ _ place_ here))
