-- Diagrams without a fault.
use Rattle.std.proofs.Common.{◌≡◌, ℕ, ◌<◌, true, false, List, Option, Some, None, length, get_or, refl, inl, inr, arith}
use Rattle.std.specs.Prelude.{Bool, nat_lt}
use Rattle.std.specs.List.{position, position_or_len}
use Rattle.std.proofs.lemmas.Bool.{cases_Bool, cases_lt, lt-ltb}
use Rattle.std.proofs.lemmas.List.Quantifiers.{position-Some}
use Rattle.std.proofs.lemmas.List.Sums.{fails_before_first}
use Rattle.dbp_plan.specs.declared.diagram.Diagram.{Diagram}
use Rattle.dbp_plan.specs.declared.diagram.ServedBy.{ServedBy}
use Rattle.dbp_plan.specs.declared.diagram.ServedBy.TheVariants.{Rank}
use Rattle.dbp_plan.specs.declared.diagram.Task.{Task}
use Rattle.dbp_plan.specs.Lookups.{no_declared_task}
use Rattle.dbp_plan.specs.Policies.{served_by}
use Rattle.rank_order.specs.Order.{ServesByRank}
use Rattle.rta_check.specs.declared.fail.RtaFail.TheVariants.{NoMemory, NotPeriodic}
use Rattle.rta_check.specs.Bounds.{fault_under, is_aperiodic, rta_fault}
use Rattle.rta_check.specs.Periods.{IsPeriodic, is_periodic}

-- if none passes, each fails
no_first : {A : Type 0} (test : A → Bool) (xs : List A) → position test xs ≡ None → (k : ℕ) (d : A) → k < length xs → test (get_or xs k d) ≡ false
no_first test xs none k d less = elim (cases_lt (position_or_len test xs) (length xs)) [
  | inl there ↦ let is : nat_lt (position_or_len test xs) (length xs) ≡ true = lt-ltb _ _ there in absurd (cc)
  | inr past ↦ fails_before_first test xs k d (omega (arith, less, past))
]

under_rank : (by : ServedBy) (first : Option ℕ) → fault_under by first ≡ None → (by ≡ Rank) × (first ≡ None)
under_rank Rank None none = (refl, refl)
under_rank _ _ none = absurd (cc)

under_named : (by : ServedBy) (first : Option ℕ) (i : ℕ) → fault_under by first ≡ Some (NotPeriodic i) → first ≡ Some i
under_named Rank (Some task) i fault = let same : Some (NotPeriodic task) ≡ Some (NotPeriodic i) = fault in cc
under_named _ _ i fault = absurd (cc)

never_memory : (by : ServedBy) (first : Option ℕ) → fault_under by first ≡ Some NoMemory → ⊥
never_memory Rank (Some task) fault = let no : Some (NotPeriodic task) ≡ Some NoMemory = fault in cc
never_memory _ _ fault = cc

clock_periodic : (t : Task) → is_aperiodic t ≡ false → is_periodic t.clock ≡ true
clock_periodic t not = elim (cases_Bool (is_periodic t.clock)) [ inl is ↦ is | inr isnt ↦ absurd (cc (isnt, not)) ]

-- a diagram without a fault is served by rank
pub no_fault_ranked : (d : Diagram) → rta_fault d ≡ None → ServesByRank d
no_fault_ranked d none = (under_rank (served_by d.policy) (position is_aperiodic d.tasks) none).0

-- and no task is on an event
pub no_fault_periodic : (d : Diagram) → rta_fault d ≡ None → IsPeriodic d
no_fault_periodic d none = λ k task less. clock_periodic (get_or d.tasks k task) (no_first is_aperiodic d.tasks (under_rank (served_by d.policy) (position is_aperiodic d.tasks) none).1 k task less)

-- the task of a fault is one of the diagram's
pub aperiodic_within : (d : Diagram) (i : ℕ) → rta_fault d ≡ Some (NotPeriodic i) → i < length d.tasks
aperiodic_within d i fault = (position-Some is_aperiodic d.tasks i no_declared_task (under_named (served_by d.policy) (position is_aperiodic d.tasks) i fault)).0

-- and the fault isn't out of memory
pub no_memory_fault : (d : Diagram) → rta_fault d ≡ Some NoMemory → ⊥
no_memory_fault d fault = never_memory (served_by d.policy) (position is_aperiodic d.tasks) fault
