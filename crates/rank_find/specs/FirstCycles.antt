-- The first cycle of direct links.
use Rattle.std.specs.Prelude.{◌≡◌, ℕ, ◌<◌, ◌≤◌, List, length, map, take, slice_get, Some}
use Rattle.dbp_plan.specs.declared.diagram.Diagram.{Diagram}
use Rattle.dbp_plan.specs.Cycles.{IsCycleFrom, LiesOnCycle}
use Rattle.dbp_plan.specs.Lookups.{task_at}

-- where two lists of one length first differ the one has the lesser number
pub record IsBefore (one other : List ℕ) : Type 0 where
  pub place : ℕ
  pub lesser : ℕ
  pub greater : ℕ
  pub front : take place one ≡ take place other
  pub in_one : slice_get one place ≡ Some lesser
  pub in_other : slice_get other place ≡ Some greater
  pub less : lesser < greater

-- a shortest cycle from the number, and of these the first in the order of lists
pub record IsFirstCycleFrom (R : ℕ → ℕ → Type 0) (start : ℕ) (cycle : List ℕ) : Type 0 where
  pub is : IsCycleFrom R start cycle
  pub shortest : (other : List ℕ) → IsCycleFrom R start other → length cycle ≤ length other
  pub first : (other : List ℕ) → IsCycleFrom R start other → length other ≡ length cycle → IsBefore other cycle → ⊥

-- that from the least number that lies on a cycle
pub record IsFirstCycle (R : ℕ → ℕ → Type 0) (start : ℕ) (cycle : List ℕ) : Type 0 where
  pub from : IsFirstCycleFrom R start cycle
  pub earliest : (i : ℕ) → i < start → LiesOnCycle R i → ⊥

-- the names of these tasks
abbrev pub names_of : Diagram → List ℕ → List (List ℕ)
names_of d tasks = map (λ i. (task_at d i).name) tasks
