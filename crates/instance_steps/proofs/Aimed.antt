-- The aim of a task, step by step.
use Rattle.std.proofs.Common.{◌≡◌, ◌≢◌, ℕ, ◌+◌, ◌<◌, ◌≤◌, [], ◌∷◌, length, slice_get, Some, refl, sym, ap, ◌∙◌, subst, arith, inl, inr}
use Rattle.std.specs.Prelude.{◌==◌}
use Rattle.std.proofs.Math.Logic.{∥∥₁_elim}
use Rattle.std.proofs.Props.{props}
use Rattle.std.proofs.lemmas.Bool.{cases_Bool, eq-eqb, ne_eqb}
use Rattle.dbp_plan.specs.declared.plan.Plan.{Plan}
use Rattle.dbp_plan.specs.Occurrences.{time_of, times_of}
use Rattle.release_list.specs.declared.release.Release.TheVariants as release
use Rattle.dbp_rules.specs.Lookups.{task, task_entry}
use Rattle.dbp_rules.specs.Promises.{IsLeastAim}
use Rattle.dbp_rules.specs.declared.parts.TaskEntry.{TaskEntry}
use Rattle.dbp_rules.specs.declared.state.State.{State}
use Rattle.dbp_rules.specs.declared.step.Step.TheVariants.{Seen, Aim}
use Rattle.dbp_rules.specs.declared.wiring.Wiring.{Wiring}
use Rattle.dbp_rules.proofs.Counted.{aims_same}
use Rattle.instance_steps.specs.Events.{aim_events, aim_of, seen_events, step_of}
use Rattle.instance_steps.specs.Plays.{Moves}
use Rattle.instance_steps.specs.Recorders.{AddsStep, plan_in, state_in, wiring_in}
use Rattle.instance_steps.specs.Releases.{AddsRelease}
use Rattle.instance_steps.specs.declared.recorder.Recorder.{Recorder}
use Rattle.instance_steps.proofs.Adding.{own_in, task_there, wired_there}
use Rattle.instance_steps.proofs.ReleaserMoves.{aim_may, aim_moves, aim_others, release_none, release_on, release_step, seen_entry, seen_may, seen_moves, seen_others}

-- one step at most
pub seen_few : (p : Plan) (time i : ℕ) → length (seen_events p time i) ≤ 1
seen_few p time i = elim (cases_Bool (time_of p.batches i 1 == time)) [
  | inl first ↦ rw first (omega arith)
  | inr later ↦ rw later (omega arith)
]

-- a task whose aim is next is there, and occurs
module _ (a : Recorder) (i : ℕ) (next_ : slice_get (wiring_in a).releases (state_in a).releaser.place ≡ Some (release.Aim i)) where
  pub aim_named : i < length (plan_in a).diagram.tasks
  aim_named = ((own_in a).whole.releases.at_aim (state_in a).releaser.place i next_).named

  pub aim_occurs : 0 < length (times_of (plan_in a).batches i)
  aim_occurs = omega (arith, aims_same (wiring_in a).releases (state_in a).releaser.place i next_, (own_in a).whole.releases.aims_times ((state_in a).releaser.place + 1) i)

  -- what the releaser knows of a task, and what it counts itself
  known_ended : (task_entry (state_in a) i).known ≤ (task (state_in a) i).part.ended
  known_ended = ∥∥₁_elim a.core.sound (hlevel props) (λ sound. let ok = sound.tasks i (wired_there a i aim_named) in omega (arith, ok.known, ok.ended))

  words_ended : (task (state_in a) i).words.ended ≡ (task (state_in a) i).part.ended
  words_ended = ∥∥₁_elim a.core.sound (hlevel props) (λ sound. (sound.tasks i (wired_there a i aim_named)).ended)

  module _ (time : ℕ) (ended : (task (state_in a) i).part.ended ≡ (task_entry (state_in a) i).aimed) where
    -- at the first instance nothing is to be seen
    pub unseen : time_of (plan_in a).batches i 1 ≡ time → AddsRelease a a (seen_events (plan_in a) time i) (state_in a).releaser.place
    unseen first = rw (eq-eqb (time_of (plan_in a).batches i 1) time first) (release_none a)

    pub unseen_known : (task_entry (state_in a) i).aimed ≡ 0 → (task_entry (state_in a) i).aimed ≡ (task_entry (state_in a) i).known
    unseen_known none = omega (arith, none, known_ended, ended)

    -- later
    pub see_may : Moves (plan_in a) (wiring_in a) (state_in a) (Seen i)
    see_may = seen_may (plan_in a) (wiring_in a) (state_in a) i aim_named

    module _ (b : Recorder) (step : AddsStep a b (Seen i)) where
      pub see_adds : time_of (plan_in a).batches i 1 ≢ time → AddsRelease a b (seen_events (plan_in a) time i) (state_in a).releaser.place
      see_adds later =
          rw (ne_eqb (time_of (plan_in a).batches i 1) time later)
          (release_step a b (step_of (Seen i)) (Seen i) (state_in a).releaser.place step refl see_may (seen_moves (plan_in a) (wiring_in a) (state_in a) i))

      entry_b : task_entry (state_in b) i ≡ record { known = (task (state_in a) i).words.ended; aimed = (task_entry (state_in a) i).aimed; current = (task_entry (state_in a) i).current; kept = (task_entry (state_in a) i).kept }
      entry_b = ap (λ (s : State). task_entry s i) step.state ∙ seen_entry (plan_in a) (wiring_in a) (state_in a) i (omega (arith, wired_there a i aim_named, a.core.shape.entries))

      pub see_known : (task_entry (state_in b) i).aimed ≡ (task_entry (state_in b) i).known
      see_known = ap (λ (e : TaskEntry). e.aimed) entry_b ∙ sym ended ∙ sym words_ended ∙ sym (ap (λ (e : TaskEntry). e.known) entry_b)

      pub see_others : (j : ℕ) → j ≢ i → task_entry (state_in b) j ≡ task_entry (state_in a) j
      see_others j other = ap (λ (s : State). task_entry s j) step.state ∙ seen_others (plan_in a) (wiring_in a) (state_in a) i j other

  -- the aim itself, after that
  module _ (b : Recorder) (time : ℕ) (seen : AddsRelease a b (seen_events (plan_in a) time i) (state_in a).releaser.place) where
    pub aim_next : slice_get (wiring_in b).releases (state_in b).releaser.place ≡ Some (release.Aim i)
    aim_next = ap (λ (w : Wiring). slice_get w.releases (state_in b).releaser.place) seen.steps.wiring ∙ ap (λ (n : ℕ). slice_get (wiring_in a).releases n) seen.moves.place ∙ next_

    named_b : i < length (plan_in b).diagram.tasks
    named_b = subst (λ (p : Plan). i < length p.diagram.tasks) (sym seen.steps.plan) aim_named

    module _ (slot : ℕ) (least : IsLeastAim (wiring_in b) (state_in b) i slot) where
      pub aim_allowed : Moves (plan_in b) (wiring_in b) (state_in b) (Aim i slot)
      aim_allowed = aim_may (plan_in b) (wiring_in b) (state_in b) i slot named_b least

      module _ (c : Recorder) (step : AddsStep b c (Aim i slot)) where
        pub aim_adds : AddsRelease a c (aim_events (plan_in a) time i) ((state_in a).releaser.place + 1)
        aim_adds =
            let one : AddsRelease b c (aim_of i ∷ []) ((state_in b).releaser.place + 1) =
            release_step b c (aim_of i) (Aim i slot) ((state_in b).releaser.place + 1) step (slot, refl, least) aim_allowed (aim_moves (plan_in b) (wiring_in b) (state_in b) i slot (task_there b i named_b)) in
            let at : AddsRelease b c (aim_of i ∷ []) ((state_in a).releaser.place + 1) = subst (λ (n : ℕ). AddsRelease b c (aim_of i ∷ []) (n + 1)) seen.moves.place one in
            release_on a b c (seen_events (plan_in a) time i) (aim_of i ∷ []) (state_in a).releaser.place ((state_in a).releaser.place + 1) seen at

        pub aim_keeps : ((j : ℕ) → j ≢ i → task_entry (state_in b) j ≡ task_entry (state_in a) j) → (j : ℕ) → j ≢ i → task_entry (state_in c) j ≡ task_entry (state_in a) j
        aim_keeps before j other = ap (λ (s : State). task_entry s j) step.state ∙ aim_others (plan_in b) (wiring_in b) (state_in b) i slot j other ∙ before j other
