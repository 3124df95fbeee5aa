-- The place of a task whose step is allowed.
use Rattle.std.proofs.Common.{◌≡◌, ℕ, Option, None, sym, ◌∙◌, ap}
use Rattle.dbp_rules.specs.Lookups.{task, wired_task}
use Rattle.dbp_rules.specs.Rules as rule
use Rattle.dbp_rules.specs.Shapes.{place_number}
use Rattle.dbp_rules.specs.declared.parts.Place.{Place}
use Rattle.dbp_rules.specs.declared.parts.Place.TheVariants as place
use Rattle.dbp_rules.specs.declared.state.State.{State}
use Rattle.dbp_rules.specs.declared.step.Broken.TheVariants as broken
use Rattle.dbp_rules.specs.declared.step.Illegal.{Illegal}
use Rattle.dbp_rules.specs.declared.step.Step.TheVariants.{Hear, Look, Take, Shut, Put, Done}
use Rattle.dbp_rules.specs.declared.wiring.Wiring.{Wiring}
use Rattle.dbp_rules.proofs.Allowed.{at_next, next_none, or_else_none, place_of}

module _ (w : Wiring) (s : State) (i : ℕ) where
  -- a task whose next step is of this kind is at the place of the kind
  pub at_kind : (kind operand : ℕ) → rule.steps_next w s i kind operand ≡ None → (task s i).part.place ≡ place_of kind (place_number (task s i).part.place)
  at_kind kind operand next = at_next broken.TaskPlace (wired_task w i) (task s i).part.place kind operand next

  pub at_step : (kind operand : ℕ) (rest : Option Illegal) → rule.or_else (rule.steps_next w s i kind operand) rest ≡ None → (task s i).part.place ≡ place_of kind (place_number (task s i).part.place)
  at_step kind operand rest free = at_kind kind operand (or_else_none _ _ free).0

  pub at_hear : rule.refusal w s (Hear i) ≡ None → (task s i).part.place ≡ place.Hear (rule.hears_at (task s i).part.place)
  at_hear free =
      let first : (task s i).part.place ≡ place.Hear (place_number (task s i).part.place) = at_step 6 0 _ free in
      first ∙ ap (λ (n : ℕ). place.Hear n) (sym (ap rule.hears_at first))

  pub at_look : (r : ℕ) → rule.refusal w s (Look i r) ≡ None → (task s i).part.place ≡ place.Look (rule.turn_at (task s i).part.place)
  at_look r free =
      let first : (task s i).part.place ≡ place.Look (place_number (task s i).part.place) = at_step 7 r _ free in
      first ∙ ap (λ (n : ℕ). place.Look n) (sym (ap rule.turn_at first))

  pub at_take : (r : ℕ) → rule.refusal w s (Take i r) ≡ None → (task s i).part.place ≡ place.Take (rule.turn_at (task s i).part.place)
  at_take r free =
      let first : (task s i).part.place ≡ place.Take (place_number (task s i).part.place) = at_step 8 r _ free in
      first ∙ ap (λ (n : ℕ). place.Take n) (sym (ap rule.turn_at first))

  pub at_shut : rule.refusal w s (Shut i) ≡ None → (task s i).part.place ≡ place.Shut
  at_shut free = at_step 9 0 _ free

  pub at_put : (port : ℕ) → rule.refusal w s (Put i port) ≡ None → (task s i).part.place ≡ place.Put port
  at_put port free =
      let first : (task s i).part.place ≡ place.Put (place_number (task s i).part.place) = at_step 10 port _ free in
      let next : rule.steps_next w s i 10 port ≡ None = (or_else_none (rule.steps_next w s i 10 port) _ free).0 in
      let number : (rule.place_kind (wired_task w i) (task s i).part.place).1 ≡ port = (next_none broken.TaskPlace (rule.place_kind (wired_task w i) (task s i).part.place) 10 port next).1 in
      first ∙ ap (λ (n : ℕ). place.Put n) (sym (ap (λ (q : Place). (rule.place_kind (wired_task w i) q).1) first) ∙ number)

  pub at_done : rule.refusal w s (Done i) ≡ None → (task s i).part.place ≡ place.Done
  at_done free = at_step 11 0 _ free
