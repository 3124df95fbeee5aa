-- Numbers that use each other, by any relation: what one waits for, and cycles.
use Rattle.std.specs.Prelude.{◌≡◌, ◌≢◌, ℕ, ◌+◌, ◌<◌, AllPairs, Contains, List, length, slice_get, Some}

-- all that the number uses are placed
abbrev pub IsReady : (ℕ → ℕ → Type 0) → List ℕ → ℕ → Type 0
IsReady R placed i = (j : ℕ) → R i j → Contains placed j

-- the number uses one that isn't placed
abbrev pub Waits : (ℕ → ℕ → Type 0) → List ℕ → ℕ → Type 0
Waits R placed i = (j : ℕ) × R i j × (Contains placed j → ⊥)

-- of the numbers below the bound none that isn't placed is ready
abbrev pub AllWait : (ℕ → ℕ → Type 0) → ℕ → List ℕ → Type 0
AllWait R count placed = (i : ℕ) → i < count → (Contains placed i → ⊥) → Waits R placed i

-- distinct numbers, of which each uses the next and the last uses the first
pub record IsCycle (R : ℕ → ℕ → Type 0) (cycle : List ℕ) : Type 0 where
  pub some : 0 < length cycle
  pub distinct : AllPairs (λ i j. i ≢ j) cycle
  pub linked : (p i j : ℕ) → slice_get cycle p ≡ Some i → slice_get cycle (p + 1) ≡ Some j → R i j
  pub closed : (p last first : ℕ) → p + 1 ≡ length cycle → slice_get cycle p ≡ Some last → slice_get cycle 0 ≡ Some first → R last first

-- the cycle begins with the number
pub record IsCycleFrom (R : ℕ → ℕ → Type 0) (i : ℕ) (cycle : List ℕ) : Type 0 where
  pub is : IsCycle R cycle
  pub begins : slice_get cycle 0 ≡ Some i

abbrev pub LiesOnCycle : (ℕ → ℕ → Type 0) → ℕ → Type 0
LiesOnCycle R i = (cycle : List ℕ) × IsCycleFrom R i cycle
