-- The front of an order, and what waits after it.
use Rattle.std.specs.Prelude.{◌≡◌, ℕ, Contains, List, length, take, slice_get, Some}
use Rattle.dbp_plan.specs.declared.diagram.Diagram.{Diagram}
use Rattle.dbp_plan.specs.Cycles as cycles
use Rattle.dbp_plan.specs.Listed.{AreListed}
use Rattle.rank_find.specs.Links.{WritesTo}
use Rattle.rank_find.specs.Orders.{IsFirstFree}

-- task i reads task j directly
abbrev pub ReadsFrom : Diagram → ℕ → ℕ → Type 0
ReadsFrom d i j = WritesTo d j i

-- all of these writers are placed
abbrev pub IsReady : List ℕ → List ℕ → Type 0
IsReady writers placed = (j : ℕ) → Contains writers j → Contains placed j

-- one of them isn't
abbrev pub IsUnready : List ℕ → List ℕ → Type 0
IsUnready writers placed = (j : ℕ) × Contains writers j × (Contains placed j → ⊥)

-- a task that writes directly to this one isn't placed
abbrev pub Waits : Diagram → List ℕ → ℕ → Type 0
Waits d placed i = cycles.Waits (ReadsFrom d) placed i

-- none of the tasks that aren't placed is free
abbrev pub AllWait : Diagram → List ℕ → Type 0
AllWait d placed = cycles.AllWait (ReadsFrom d) (length d.tasks) placed

-- the front of an order: distinct tasks, and at each place the first of those that are free after the places before it
pub record IsFront (d : Diagram) (placed : List ℕ) : Type 0 where
  pub listed : AreListed (length d.tasks) placed
  pub each : (p i : ℕ) → slice_get placed p ≡ Some i → IsFirstFree d (take p placed) i
