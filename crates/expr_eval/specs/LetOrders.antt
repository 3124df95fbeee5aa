-- How lets use each other: orders of evaluation from the front, and cycles. Lets are named by their places.
use Rattle.std.specs.Prelude.{◌≡◌, ℕ, ◌+◌, ◌<◌, Contains, List, length, take, slice_get, Some}
use Rattle.dbp_plan.specs.declared.node.Node.TheVariants.{Var}
use Rattle.dbp_plan.specs.declared.diagram.Let.{Let}
use Rattle.dbp_plan.specs.Cycles as cycles
use Rattle.dbp_plan.specs.LetOrder.{IsLetOrder}
use Rattle.expr_eval.specs.declared.order.LetFail.{LetFail}
use Rattle.expr_eval.specs.declared.order.LetFail.TheVariants.{Cycle, NoMemory}

-- let i uses let j: a node of its expression is the variable of let j
pub record Uses (base : ℕ) (lets : List Let) (i j : ℕ) : Type 0 where
  pub user : Let
  pub place : ℕ
  pub is : slice_get lets i ≡ Some user
  pub variable : slice_get user.expr.nodes place ≡ Some (Var (base + j))

-- all that the let uses are placed
abbrev pub IsReady : ℕ → List Let → List ℕ → ℕ → Type 0
IsReady base lets placed i = cycles.IsReady (Uses base lets) placed i

-- the let uses one that isn't placed
abbrev pub Waits : ℕ → List Let → List ℕ → ℕ → Type 0
Waits base lets placed i = cycles.Waits (Uses base lets) placed i

-- the earliest let that isn't placed and is ready
pub record IsNextReady (base : ℕ) (lets : List Let) (placed : List ℕ) (next : ℕ) : Type 0 where
  pub named : next < length lets
  pub unplaced : Contains placed next → ⊥
  pub ready : IsReady base lets placed next
  pub earliest : (i : ℕ) → i < next → (Contains placed i → ⊥) → Waits base lets placed i

-- no let that isn't placed is ready
abbrev pub AllWait : ℕ → List Let → List ℕ → Type 0
AllWait base lets placed = cycles.AllWait (Uses base lets) (length lets) placed

-- At each place stands the earliest let among those that may stand there: each earlier one that isn't placed yet waits for one that isn't.
pub record IsFrontOrder (base : ℕ) (lets : List Let) (order : List ℕ) : Type 0 where
  pub is_order : IsLetOrder base lets order
  pub earliest : (p next i : ℕ) → slice_get order p ≡ Some next → i < next → (Contains (take p order) i → ⊥) → Waits base lets (take p order) i

-- distinct lets, of which each uses the next and the last uses the first
abbrev pub IsCycle : ℕ → List Let → List ℕ → Type 0
IsCycle base lets cycle = cycles.IsCycle (Uses base lets) cycle

-- the cycle begins with the let
abbrev pub IsCycleFrom : ℕ → List Let → ℕ → List ℕ → Type 0
IsCycleFrom base lets i cycle = cycles.IsCycleFrom (Uses base lets) i cycle

abbrev pub LiesOnCycle : ℕ → List Let → ℕ → Type 0
LiesOnCycle base lets i = cycles.LiesOnCycle (Uses base lets) i

-- a cycle from the earliest let that lies on one
pub record IsFirstCycle (base : ℕ) (lets : List Let) (first : ℕ) (cycle : List ℕ) : Type 0 where
  pub is : IsCycleFrom base lets first cycle
  pub earliest : (i : ℕ) → i < first → LiesOnCycle base lets i → ⊥

-- the names of these lets, in order
pub record AreNamesOf (lets : List Let) (numbers : List ℕ) (names : List (List ℕ)) : Type 0 where
  pub size : length names ≡ length numbers
  pub each : (p i : ℕ) (l : Let) → slice_get numbers p ≡ Some i → slice_get lets i ≡ Some l → slice_get names p ≡ Some l.name

-- what a failure says of the lets; out of memory says nothing
abbrev pub IsFailOf : ℕ → List Let → LetFail → Type 0
IsFailOf base lets (Cycle first names) = (cycle : List ℕ) × IsFirstCycle base lets first cycle × AreNamesOf lets cycle names
IsFailOf base lets NoMemory = Unit {0}
