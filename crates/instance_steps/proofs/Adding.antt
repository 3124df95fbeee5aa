-- A recorder that gains steps: by one step, by a piece after another, and what stays true of it.
use Rattle.std.specs.Prelude.{is_some, unwrap_or}
use Rattle.std.specs.Option.{option_map}
use Rattle.std.proofs.Common.{◌≡◌, ℕ, ◌+◌, ◌<◌, ◌≤◌, Option, Some, None, List, [], ◌∷◌, ◌++◌, length, refl, sym, ap, ◌∙◌, subst, arith, append_assoc, length-append, Result, Ok, Err, OnOk}
use Rattle.std.proofs.lemmas.List.{append-nil}
use Rattle.dbp_plan.specs.declared.plan.Plan.{Plan}
use Rattle.dbp_plan.specs.Lookups.{declared_task}
use Rattle.dbp_rules.specs.Lookups.{task, wired_task}
use Rattle.dbp_rules.specs.Rules.{next}
use Rattle.dbp_rules.specs.Wired.{task_wiring}
use Rattle.dbp_rules.specs.declared.parts.Place.{Place}
use Rattle.dbp_rules.specs.declared.state.State.{State}
use Rattle.dbp_rules.specs.declared.step.Step.{Step}
use Rattle.dbp_rules.specs.declared.wiring.Wiring.{Wiring}
use Rattle.dbp_rules.proofs.SoundOwn.{IsOwn, own_wiring}
use Rattle.dbp_rules.proofs.WiringParts.{wired_is}
use Rattle.instance_steps.specs.Events.{Event, step_of}
use Rattle.instance_steps.specs.Plays.{IsStepOf, Moves, Plays}
use Rattle.instance_steps.specs.Recorders.{AddsStep, AddsSteps, count_in, plan_in, record_in, state_in, steps_in, wiring_in}
use Rattle.instance_steps.specs.TaskPieces.{AddsPiece, ChangesTask, MayStep}
use Rattle.instance_steps.specs.declared.recorder.Recorder.{Recorder}
use Rattle.instance_steps.proofs.PlaysLaws.{plays_long, plays_on, plays_one}
use Rattle.instance_steps.proofs.TaskMoves.{changes_on, may_step_on}

-- ---- a recorder

-- its wiring is its plan's own, and it has a state of each task
pub own_in : (r : Recorder) → IsOwn (plan_in r) (wiring_in r)
own_in r = subst (λ (w : Wiring). IsOwn (plan_in r) w) (sym r.core.wired) (own_wiring (plan_in r) (count_in r))

pub wired_in : (r : Recorder) (i : ℕ) → i < length (plan_in r).diagram.tasks → wired_task (wiring_in r) i ≡ task_wiring (plan_in r) (count_in r) (i, declared_task (plan_in r) i)
wired_in r i named = ap (λ (w : Wiring). wired_task w i) r.core.wired ∙ wired_is (plan_in r) (count_in r) i named

pub wired_there : (r : Recorder) (i : ℕ) → i < length (plan_in r).diagram.tasks → i < length (wiring_in r).tasks
wired_there r i named = omega (arith, named, r.core.shape.wiring.tasks)

pub task_there : (r : Recorder) (i : ℕ) → i < length (plan_in r).diagram.tasks → i < length (state_in r).tasks
task_there r i named = omega (arith, named, r.core.shape.wiring.tasks, r.core.shape.tasks)

-- ---- a list that is kept, if one is: with no steps more, with more twice, how long, and that it stays kept

kept_none : (kept : Option (List Step)) → kept ≡ option_map (λ steps. steps ++ []) kept
kept_none None = refl
kept_none (Some steps) = ap Some (sym (append-nil steps))

kept_on : (kept : Option (List Step)) (first then_ : List Step) → option_map (λ steps. steps ++ then_) (option_map (λ steps. steps ++ first) kept) ≡ option_map (λ steps. steps ++ (first ++ then_)) kept
kept_on None first then_ = refl
kept_on (Some steps) first then_ = ap Some (append_assoc steps first then_)

kept_long : (kept : Option (List Step)) (added : List Step) → length (unwrap_or (option_map (λ steps. steps ++ added) kept) []) ≤ length (unwrap_or kept []) + length added
kept_long None added = omega arith
kept_long (Some steps) added = omega (arith, length-append steps added)

kept_still : (kept : Option (List Step)) (added : List Step) → is_some (option_map (λ steps. steps ++ added) kept) ≡ is_some kept
kept_still None added = refl
kept_still (Some steps) added = refl

-- ---- steps that are added

pub adds_none : (a : Recorder) → AddsSteps a a []
adds_none a = record { plan = refl; wiring = refl; added = []; steps = kept_none (record_in a); plays = refl }

pub adds_on : (a b c : Recorder) (us vs : List Event) → AddsSteps a b us → AddsSteps b c vs → AddsSteps a c (us ++ vs)
adds_on a b c us vs first then_ =
    let plays : Plays (plan_in a) (wiring_in a) (state_in b) vs then_.added (state_in c) =
    subst (λ (x : Plan). Plays x (wiring_in a) (state_in b) vs then_.added (state_in c)) first.plan
    (subst (λ (x : Wiring). Plays (plan_in b) x (state_in b) vs then_.added (state_in c)) first.wiring then_.plays) in
    record {
      plan = then_.plan ∙ first.plan;
      wiring = then_.wiring ∙ first.wiring;
      added = first.added ++ then_.added;
      steps = then_.steps ∙ ap (option_map (λ (steps : List Step). steps ++ then_.added)) first.steps ∙ kept_on (record_in a) first.added then_.added;
      plays = plays_on (plan_in a) (wiring_in a) us vs first.added then_.added (state_in a) (state_in b) (state_in c) first.plays plays;
    }

-- by one step, that of an event
pub adds_step : (a b : Recorder) (v : Event) (e : Step) → AddsStep a b e → IsStepOf (wiring_in a) (state_in a) v e → Moves (plan_in a) (wiring_in a) (state_in a) e → AddsSteps a b (v ∷ [])
adds_step a b v e step is moves = record {
  plan = step.plan;
  wiring = step.wiring;
  added = e ∷ [];
  steps = step.steps;
  plays = subst (λ (x : State). Plays (plan_in a) (wiring_in a) (state_in a) (v ∷ []) (e ∷ []) x) (sym step.state) (plays_one (plan_in a) (wiring_in a) v e (state_in a) is moves);
}

-- the list that is kept grows by no more, and stays kept
pub steps_longer : (a b : Recorder) (e : Step) → AddsStep a b e → length (steps_in b) ≤ length (steps_in a) + 1
steps_longer a b e step = omega (arith, ap (λ (kept : Option (List Step)). length (unwrap_or kept [])) step.steps, kept_long (record_in a) (e ∷ []))

pub steps_long : (a b : Recorder) (vs : List Event) → AddsSteps a b vs → length (steps_in b) ≤ length (steps_in a) + length vs
steps_long a b vs adds =
    omega
    (arith, ap (λ (kept : Option (List Step)). length (unwrap_or kept [])) adds.steps, kept_long (record_in a) adds.added, plays_long (plan_in a) (wiring_in a) vs adds.added (state_in a) (state_in b) adds.plays)

pub still_kept : (a b : Recorder) (vs : List Event) → AddsSteps a b vs → is_some (record_in b) ≡ is_some (record_in a)
still_kept a b vs adds = ap (λ (kept : Option (List Step)). is_some kept) adds.steps ∙ kept_still (record_in a) adds.added

-- what follows of a call's result that holds on `Ok`
pub on_ok : {T E P Q : Type 0} (r : Result T E) → (P → Q) → OnOk r P → OnOk r Q
on_ok (Ok v) f is = f is
on_ok (Err e) f is = is

pub on_ok_both : {T E P Q R : Type 0} (r : Result T E) → (P → Q → R) → OnOk r P → OnOk r Q → OnOk r R
on_ok_both (Ok v) f is also = f is also
on_ok_both (Err e) f is also = also

-- ---- pieces of an instance

pub changes_as : (s new : State) (i m n : ℕ) (q r : Place) → m ≡ n → q ≡ r → ChangesTask s new i m q → ChangesTask s new i n r
changes_as s new i m n q r same also changes = record {
  releaser = changes.releaser;
  orders = changes.orders;
  others = changes.others;
  gate = changes.gate;
  ended = changes.ended ∙ same;
  place = changes.place ∙ also;
}

pub piece_none : (a : Recorder) (i : ℕ) → AddsPiece a a [] i (task (state_in a) i).part.ended (task (state_in a) i).part.place
piece_none a i = record {
  steps = adds_none a;
  changes = record { releaser = refl; orders = refl; others = λ j other. refl; gate = refl; ended = refl; place = refl };
}

pub piece_as : (a b : Recorder) (us : List Event) (i m n : ℕ) (q r : Place) → m ≡ n → q ≡ r → AddsPiece a b us i m q → AddsPiece a b us i n r
piece_as a b us i m n q r same also piece = record { steps = piece.steps; changes = changes_as (state_in a) (state_in b) i m n q r same also piece.changes }

pub piece_on : (a b c : Recorder) (us vs : List Event) (i m n : ℕ) (q r : Place) → AddsPiece a b us i m q → AddsPiece b c vs i n r → AddsPiece a c (us ++ vs) i n r
piece_on a b c us vs i m n q r first then_ = record {
  steps = adds_on a b c us vs first.steps then_.steps;
  changes = changes_on (state_in a) (state_in b) (state_in c) i m n q r first.changes then_.changes;
}

pub piece_step : (a b : Recorder) (e : Step) (i n : ℕ) (q : Place) → AddsStep a b e → Moves (plan_in a) (wiring_in a) (state_in a) e → ChangesTask (state_in a) (next (plan_in a) (wiring_in a) (state_in a) e) i n q
    → AddsPiece a b (step_of e ∷ []) i n q
piece_step a b e i n q step moves changes = record {
  steps = adds_step a b (step_of e) e step refl moves;
  changes = subst (λ (x : State). ChangesTask (state_in a) x i n q) (sym step.state) changes;
}

-- after a piece that ends no instance, the task may still step
module _ (a b : Recorder) (us : List Event) (i : ℕ) (q : Place) (piece : AddsPiece a b us i (task (state_in a) i).part.ended q) where
  pub still_named : i < length (plan_in a).diagram.tasks → i < length (plan_in b).diagram.tasks
  still_named named = subst (λ (x : Plan). i < length x.diagram.tasks) (sym piece.steps.plan) named

  pub still_free : MayStep (wiring_in a) (state_in a) i → MayStep (wiring_in b) (state_in b) i
  still_free may = subst (λ (w : Wiring). MayStep w (state_in b) i) (sym piece.steps.wiring) (may_step_on (wiring_in a) (state_in a) (state_in b) i q piece.changes may)
