-- The order of a diagram's tasks by their direct links.
use Rattle.std.specs.Prelude.{◌≡◌, ◌⊎◌, ℕ, ◌<◌, Bool, true, false, not, ◌&&◌, ◌||◌, nat_lt, IsTrue, Contains, List, length, take, slice_get, Some}
use Rattle.dbp_plan.specs.declared.diagram.Clock.{Clock}
use Rattle.dbp_plan.specs.declared.diagram.Clock.TheVariants.{Every, On}
use Rattle.dbp_plan.specs.declared.diagram.Diagram.{Diagram}
use Rattle.dbp_plan.specs.Listed.{AreListed}
use Rattle.dbp_plan.specs.Lookups.{task_at}
use Rattle.rank_find.specs.Links.{WritesTo}

-- whether the one clock is of the shorter period; an event is longer than all periods
abbrev pub is_shorter : Clock → Clock → Bool
is_shorter (Every period offset) (Every other another) = nat_lt period other
is_shorter (Every period offset) (On event) = true
is_shorter (On event) clock = false

-- whether task i is before task j: the shorter period first, then the earlier declaration
abbrev pub is_first_of : Diagram → ℕ → ℕ → Bool
is_first_of d i j =
    is_shorter (task_at d i).clock (task_at d j).clock
    || (not (is_shorter (task_at d j).clock (task_at d i).clock) && nat_lt i j)

-- the task isn't placed, and all that write directly to it are
pub record IsFree (d : Diagram) (placed : List ℕ) (i : ℕ) : Type 0 where
  pub named : i < length d.tasks
  pub unplaced : Contains placed i → ⊥
  pub ready : (j : ℕ) → WritesTo d j i → Contains placed j

-- it is the first of the free tasks
pub record IsFirstFree (d : Diagram) (placed : List ℕ) (i : ℕ) : Type 0 where
  pub free : IsFree d placed i
  pub first : (j : ℕ) → IsFree d placed j → (j ≡ i) ⊎ IsTrue (is_first_of d i j)

-- all tasks, and at each place the first of those that are free after the places before it
pub record IsOrder (d : Diagram) (order : List ℕ) : Type 0 where
  pub size : length order ≡ length d.tasks
  pub each : (p i : ℕ) → slice_get order p ≡ Some i → IsFirstFree d (take p order) i

-- the list has each number below the bound once
pub record HoldsEachOnce (count : ℕ) (order : List ℕ) : Type 0 where
  pub size : length order ≡ count
  pub listed : AreListed count order
