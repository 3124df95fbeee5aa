-- The gates of a batch, task by task.
use Rattle.std.proofs.Common.{◌≡◌, ℕ, ◌+◌, ◌<◌, List, [], ◌∷◌, length, map, get_or, slice_get, take, refl, sym, ap, ◌∙◌, subst, arith}
use Rattle.std.proofs.lemmas.List.{take_all}
use Rattle.dbp_plan.specs.declared.plan.Plan.{Plan}
use Rattle.release_list.specs.Releases.{batch_start, claims_of}
use Rattle.dbp_rules.specs.declared.state.State.{State}
use Rattle.dbp_rules.specs.declared.step.Step.TheVariants.{OpenGate}
use Rattle.dbp_rules.specs.declared.wiring.Wiring.{Wiring}
use Rattle.instance_steps.specs.Events.{Event, step_of}
use Rattle.instance_steps.specs.Plays.{Moves}
use Rattle.instance_steps.specs.Recorders.{AddsStep, plan_in, state_in, wiring_in}
use Rattle.instance_steps.specs.Releases.{AddsRelease, batch_at}
use Rattle.instance_steps.specs.declared.recorder.Recorder.{Recorder}
use Rattle.instance_steps.proofs.Adding.{task_there}
use Rattle.instance_steps.proofs.BatchTasks.{map_more, open_listed, task_named}
use Rattle.instance_steps.proofs.ReleaserMoves.{open_may, open_moves, release_as, release_none, release_on, release_step}

abbrev pub HasOpened : Recorder → ℕ → Recorder → ℕ → Type 0
HasOpened a number b n = AddsRelease a b (map (λ i. step_of (OpenGate i)) (take n (batch_at (plan_in a) number).tasks)) ((state_in a).releaser.place + n)

module _ (a : Recorder) (number : ℕ) (there : number < length (plan_in a).batches)
    (next_ : (state_in a).releaser.place ≡ batch_start (plan_in a).diagram.links (plan_in a).batches number + length (batch_at (plan_in a) number).tasks + length (claims_of (plan_in a).diagram.links (batch_at (plan_in a) number).tasks)) where
  pub opened_none : HasOpened a number a 0
  opened_none = release_as a a [] _ _ (omega arith) (release_none a)

  pub opened_all : (b : Recorder) (n : ℕ) → n ≡ length (batch_at (plan_in a) number).tasks → HasOpened a number b n
      → AddsRelease a b (map (λ i. step_of (OpenGate i)) (batch_at (plan_in a) number).tasks) ((state_in a).releaser.place + length (batch_at (plan_in a) number).tasks)
  opened_all b n is adds =
      let whole : HasOpened a number b (length (batch_at (plan_in a) number).tasks) = subst (λ (k : ℕ). HasOpened a number b k) is adds in
      subst (λ (l : List ℕ). AddsRelease a b (map (λ i. step_of (OpenGate i)) l) ((state_in a).releaser.place + length (batch_at (plan_in a) number).tasks)) (take_all (length (batch_at (plan_in a) number).tasks) (batch_at (plan_in a) number).tasks (omega arith)) whole

  module _ (b : Recorder) (n : ℕ) (below : n < length (batch_at (plan_in a) number).tasks) (adds : HasOpened a number b n) where
    named_b : get_or (batch_at (plan_in a) number).tasks n 0 < length (plan_in b).diagram.tasks
    named_b = subst (λ (p : Plan). get_or (batch_at (plan_in a) number).tasks n 0 < length p.diagram.tasks) (sym adds.steps.plan) (task_named a number there n below)

    pub gate_may : Moves (plan_in b) (wiring_in b) (state_in b) (OpenGate (get_or (batch_at (plan_in a) number).tasks n 0))
    gate_may =
        let at : (state_in b).releaser.place ≡ batch_start (plan_in a).diagram.links (plan_in a).batches number + (length (batch_at (plan_in a) number).tasks + (length (claims_of (plan_in a).diagram.links (batch_at (plan_in a) number).tasks) + n)) =
        omega (arith, adds.moves.place, next_) in
        open_may (plan_in b) (wiring_in b) (state_in b) (get_or (batch_at (plan_in a) number).tasks n 0) named_b
        (ap (λ (w : Wiring). slice_get w.releases (state_in b).releaser.place) adds.steps.wiring ∙ ap (λ (k : ℕ). slice_get (wiring_in a).releases k) at ∙ open_listed a number there n below)

    module _ (c : Recorder) (step : AddsStep b c (OpenGate (get_or (batch_at (plan_in a) number).tasks n 0))) where
      pub opened_more : HasOpened a number c (n + 1)
      opened_more =
          let one : AddsRelease b c (step_of (OpenGate (get_or (batch_at (plan_in a) number).tasks n 0)) ∷ []) ((state_in b).releaser.place + 1) =
          release_step b c _ _ _ step refl gate_may (open_moves (plan_in b) (wiring_in b) (state_in b) (get_or (batch_at (plan_in a) number).tasks n 0) (task_there b _ named_b)) in
          subst (λ (vs : List Event). AddsRelease a c vs ((state_in a).releaser.place + (n + 1))) (sym (map_more (λ i. step_of (OpenGate i)) (batch_at (plan_in a) number).tasks n below))
          (release_on a b c _ _ _ _ adds (release_as b c _ _ _ (omega (arith, adds.moves.place)) one))

      pub opened_entries : (state_in c).releaser.tasks ≡ (state_in b).releaser.tasks
      opened_entries = ap (λ (s : State). s.releaser.tasks) step.state
