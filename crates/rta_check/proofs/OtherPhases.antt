-- What the response-time equation reads of a diagram doesn't depend on its phase.
use Rattle.std.proofs.Common.{◌≡◌, ℕ, ◌*◌, true, List, length, refl, sym, ap, ap₂, ◌∙◌, subst, arith}
use Rattle.std.specs.Prelude.{Bool, if◌then◌else◌, nat_lt, slice_index, sum_by}
use Rattle.std.specs.List.{range_with_len}
use Rattle.std.proofs.Math.ListN.{get_or-map}
use Rattle.std.proofs.lemmas.List.{get_or_default, length-map}
use Rattle.std.proofs.lemmas.List.Sums.{sum_by-le-sum_by}
use Rattle.dbp_plan.specs.declared.diagram.Clock.{Clock}
use Rattle.dbp_plan.specs.declared.diagram.Clock.TheVariants.{Every, On}
use Rattle.dbp_plan.specs.declared.diagram.Diagram.{Diagram}
use Rattle.dbp_plan.specs.declared.diagram.Task.{Task}
use Rattle.dbp_plan.specs.Lookups.{no_declared_task, task_at}
use Rattle.rta_check.specs.Periods.{IsPeriodic, is_periodic, period_of}
use Rattle.rta_check.specs.Phases.{DiffersInPhase, task_without_offset, without_offset}
use Rattle.rta_check.specs.Requests.{div_ceil, is_above, request_bound, request_of}
use Rattle.rta_check.specs.Responses.{SolvesEquation}

same_period : (c : Clock) → period_of (without_offset c) ≡ period_of c
same_period (Every period offset) = refl
same_period (On event) = refl

same_kind : (c : Clock) → is_periodic (without_offset c) ≡ is_periodic c
same_kind (Every period offset) = refl
same_kind (On event) = refl

module _ (d e : Diagram) (differs : DiffersInPhase d e) where
  same_task : (j : ℕ) → task_without_offset (task_at d j) ≡ task_without_offset (task_at e j)
  same_task j =
      sym (get_or-map task_without_offset d.tasks j no_declared_task)
      ∙ ap (λ (x : Diagram). task_at x j) differs
      ∙ get_or-map task_without_offset e.tasks j no_declared_task

  same_cost : (j : ℕ) → (task_at d j).cost ≡ (task_at e j).cost
  same_cost j = ap (λ (t : Task). t.cost) (same_task j)

  same_period_of : (j : ℕ) → period_of (task_at d j).clock ≡ period_of (task_at e j).clock
  same_period_of j = sym (same_period (task_at d j).clock) ∙ ap (λ (t : Task). period_of t.clock) (same_task j) ∙ same_period (task_at e j).clock

  same_ranks : d.ranks ≡ e.ranks
  same_ranks = ap (λ (x : Diagram). x.ranks) differs

  pub same_policy : d.policy ≡ e.policy
  same_policy = ap (λ (x : Diagram). x.policy) differs

  pub same_count : length d.tasks ≡ length e.tasks
  same_count = omega (arith, length-map d.tasks task_without_offset, length-map e.tasks task_without_offset, ap (λ (x : Diagram). length x.tasks) differs)

  pub still_periodic : IsPeriodic d → IsPeriodic e
  still_periodic periodic j any below =
      let there : is_periodic (task_at d j).clock ≡ true = periodic j no_declared_task (omega (arith, below, same_count)) in
      let here : is_periodic (task_at e j).clock ≡ true =
      sym (same_kind (task_at e j).clock) ∙ sym (ap (λ (t : Task). is_periodic t.clock) (same_task j)) ∙ same_kind (task_at d j).clock ∙ there in
      subst (λ (t : Task). is_periodic t.clock ≡ true) (get_or_default e.tasks j no_declared_task any below) here

  same_request : (i r j : ℕ) → (if is_above d j i then request_of d r j else 0) ≡ (if is_above e j i then request_of e r j else 0)
  same_request i r j = ap₂ (λ (above : Bool) (request : ℕ). if above then request else 0)
      (ap (λ (ranks : List ℕ). nat_lt (slice_index ranks j) (slice_index ranks i)) same_ranks)
      (ap₂ (λ (period cost : ℕ). div_ceil r period * cost) (same_period_of j) (same_cost j))

  same_bound : (i r : ℕ) → request_bound d i r ≡ request_bound e i r
  same_bound i r =
      let of_d : ℕ → ℕ = λ j. if is_above d j i then request_of d r j else 0 in
      let of_e : ℕ → ℕ = λ j. if is_above e j i then request_of e r j else 0 in
      let numbers : List ℕ = range_with_len 0 (length d.tasks) in
      let up = sum_by-le-sum_by of_d of_e numbers (λ j. omega (arith, same_request i r j)) in
      let down = sum_by-le-sum_by of_e of_d numbers (λ j. omega (arith, same_request i r j)) in
      omega (arith, same_cost i, up, down, ap (λ (n : ℕ). sum_by of_e (range_with_len 0 n)) same_count)

  pub still_solves : (i r : ℕ) → SolvesEquation d i r → SolvesEquation e i r
  still_solves i r solves = record {
    some = solves.some;
    within = omega (arith, solves.within, same_period_of i);
    equal = solves.equal ∙ same_bound i r;
  }
