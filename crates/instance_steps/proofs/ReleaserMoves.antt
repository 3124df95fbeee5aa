-- The releaser's steps: each is allowed if it is the next action, and leaves the tasks as they were.
use Rattle.std.proofs.Common.{◌≡◌, ◌≢◌, ℕ, ◌+◌, ◌<◌, List, [], ◌∷◌, ◌++◌, length, get_or, set, slice_get, Some, refl, sym, ap, ◌∙◌, subst, get_or-set_other, get_or-set_same}
use Rattle.std.proofs.lemmas.Bool.{eq-eqb}
use Rattle.dbp_plan.specs.declared.plan.Plan.{Plan}
use Rattle.release_list.specs.declared.release.Release.TheVariants as release
use Rattle.dbp_rules.specs.Moves as move
use Rattle.dbp_rules.specs.Lookups.{no_task, no_task_entry, task, task_entry}
use Rattle.dbp_rules.specs.Promises.{IsLeastAim}
use Rattle.dbp_rules.specs.Rules.{next}
use Rattle.dbp_rules.specs.declared.state.State.{State}
use Rattle.dbp_rules.specs.declared.state.TaskState.{TaskState}
use Rattle.dbp_rules.specs.declared.step.Step.{Step}
use Rattle.dbp_rules.specs.declared.step.Step.TheVariants.{Seen, Aim, Claim, OpenGate}
use Rattle.dbp_rules.specs.declared.wiring.Wiring.{Wiring}
use Rattle.dbp_rules.proofs.Frames.{after_set}
use Rattle.instance_steps.specs.Events.{Event}
use Rattle.instance_steps.specs.Plays.{IsStepOf, Moves}
use Rattle.instance_steps.specs.Recorders.{AddsStep, plan_in, state_in, wiring_in}
use Rattle.instance_steps.specs.Releases.{AddsRelease, MovesReleaser}
use Rattle.instance_steps.specs.declared.recorder.Recorder.{Recorder}
use Rattle.instance_steps.proofs.Adding.{adds_none, adds_on, adds_step}

-- ---- states

pub moves_none : (s : State) → MovesReleaser s s s.releaser.place
moves_none s = record { place = refl; parts = λ i. refl; ended = λ i. refl }

pub moves_on : (s u v : State) (m n : ℕ) → MovesReleaser s u m → MovesReleaser u v n → MovesReleaser s v n
moves_on s u v m n first then_ = record {
  place = then_.place;
  parts = λ i. then_.parts i ∙ first.parts i;
  ended = λ i. then_.ended i ∙ first.ended i;
}

-- another state of one task, with its part and its ended number
with_words : (s new : State) (i : ℕ) (t : TaskState) → i < length s.tasks → new.tasks ≡ set s.tasks i t → t.part ≡ (task s i).part → t.words.ended ≡ (task s i).words.ended → MovesReleaser s new new.releaser.place
with_words s new i t inside is part ended = record {
  place = refl;
  parts = λ j. ap (λ (ts : List TaskState). (get_or ts j no_task).part) is ∙ after_set (λ (k : ℕ) (u : TaskState). u.part ≡ (task s k).part) s.tasks i t no_task inside part (λ k other. refl) j;
  ended = λ j. ap (λ (ts : List TaskState). (get_or ts j no_task).words.ended) is ∙ after_set (λ (k : ℕ) (u : TaskState). u.words.ended ≡ (task s k).words.ended) s.tasks i t no_task inside ended (λ k other. refl) j;
}

module _ (p : Plan) (w : Wiring) (s : State) where
  -- how many have ended
  pub seen_may : (i : ℕ) → i < length p.diagram.tasks → Moves p w s (Seen i)
  seen_may i named = record { named = named; allowed = refl; open_ = λ same. cc (same); ready = λ same. cc (same) }

  pub seen_moves : (i : ℕ) → MovesReleaser s (next p w s (Seen i)) s.releaser.place
  seen_moves i = record { place = refl; parts = λ j. refl; ended = λ j. refl }

  pub seen_others : (i j : ℕ) → j ≢ i → task_entry (next p w s (Seen i)) j ≡ task_entry s j
  seen_others i j other = get_or-set_other s.releaser.tasks i j (move.after_seen (task_entry s i) (task s i).words.ended) no_task_entry other

  pub seen_entry : (i : ℕ) → i < length s.releaser.tasks → task_entry (next p w s (Seen i)) i ≡ move.after_seen (task_entry s i) (task s i).words.ended
  seen_entry i inside = get_or-set_same s.releaser.tasks i (move.after_seen (task_entry s i) (task s i).words.ended) no_task_entry inside

  -- an aim
  pub aim_may : (i slot : ℕ) → i < length p.diagram.tasks → IsLeastAim w s i slot → Moves p w s (Aim i slot)
  aim_may i slot named least = record { named = named; allowed = least.allowed; open_ = λ same. cc (same); ready = λ same. cc (same) }

  pub aim_moves : (i slot : ℕ) → i < length s.tasks → MovesReleaser s (next p w s (Aim i slot)) (s.releaser.place + 1)
  aim_moves i slot inside = with_words s (next p w s (Aim i slot)) i _ inside refl refl refl

  pub aim_others : (i slot j : ℕ) → j ≢ i → task_entry (next p w s (Aim i slot)) j ≡ task_entry s j
  aim_others i slot j other = get_or-set_other s.releaser.tasks i j (move.after_aim (task_entry s i) slot) no_task_entry other

  -- a claim
  pub claim_may : (k : ℕ) → k < length p.diagram.links → slice_get w.releases s.releaser.place ≡ Some (release.Claim k) → Moves p w s (Claim k)
  claim_may k named here = record { named = named; allowed = rw (here, eq-eqb k k refl) refl; open_ = λ same. cc (same); ready = λ same. cc (same) }

  pub claim_moves : (k : ℕ) → MovesReleaser s (next p w s (Claim k)) (s.releaser.place + 1)
  claim_moves k = record { place = refl; parts = λ j. refl; ended = λ j. refl }

  -- an open
  pub open_may : (i : ℕ) → i < length p.diagram.tasks → slice_get w.releases s.releaser.place ≡ Some (release.OpenGate i) → Moves p w s (OpenGate i)
  open_may i named here = record { named = named; allowed = rw (here, eq-eqb i i refl) refl; open_ = λ same. cc (same); ready = λ same. cc (same) }

  pub open_moves : (i : ℕ) → i < length s.tasks → MovesReleaser s (next p w s (OpenGate i)) (s.releaser.place + 1)
  open_moves i inside = with_words s (next p w s (OpenGate i)) i _ inside refl refl refl

-- ---- recorders

pub release_none : (a : Recorder) → AddsRelease a a [] (state_in a).releaser.place
release_none a = record { steps = adds_none a; moves = moves_none (state_in a) }

pub release_as : (a b : Recorder) (us : List Event) (m n : ℕ) → m ≡ n → AddsRelease a b us m → AddsRelease a b us n
release_as a b us m n same adds = record { steps = adds.steps; moves = record { place = adds.moves.place ∙ same; parts = adds.moves.parts; ended = adds.moves.ended } }

pub release_on : (a b c : Recorder) (us vs : List Event) (m n : ℕ) → AddsRelease a b us m → AddsRelease b c vs n → AddsRelease a c (us ++ vs) n
release_on a b c us vs m n first then_ = record { steps = adds_on a b c us vs first.steps then_.steps; moves = moves_on (state_in a) (state_in b) (state_in c) m n first.moves then_.moves }

pub release_step : (a b : Recorder) (v : Event) (e : Step) (n : ℕ) → AddsStep a b e → IsStepOf (wiring_in a) (state_in a) v e → Moves (plan_in a) (wiring_in a) (state_in a) e
    → MovesReleaser (state_in a) (next (plan_in a) (wiring_in a) (state_in a) e) n → AddsRelease a b (v ∷ []) n
release_step a b v e n step is may moves = record {
  steps = adds_step a b v e step is may;
  moves = subst (λ (s : State). MovesReleaser (state_in a) s n) (sym step.state) moves;
}
