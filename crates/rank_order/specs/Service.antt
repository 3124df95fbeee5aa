-- Which instance is served in each tick.
use Rattle.std.specs.Prelude.{◌≡◌, ◌≢◌, ℕ, zero, suc, ◌+◌, ◌-◌, ◌<◌, ◌≤◌, ◌⊎◌, ◌==◌, ◌&&◌, if◌then◌else◌, Bool, false, IsTrue, Option, Some, None}
use Rattle.dbp_plan.specs.declared.plan.Plan.{Plan}
use Rattle.dbp_plan.specs.Lookups.{declared_task}
use Rattle.rank_order.specs.Instances.{Instance, IsInstance, release_of}
use Rattle.rank_order.specs.Order.{goes_before}

-- the instance is released at or before t, and something is left of it at t
pub record Waits (p : Plan) (left : Instance → ℕ → ℕ) (t : ℕ) (x : Instance) : Type 0 where
  pub instance : IsInstance p x
  pub released : release_of p x ≤ t
  pub unfinished : 0 < left x t

-- the policy serves the one before the other
abbrev pub GoesBefore : Plan → Instance → Instance → Type 0
GoesBefore p x y = IsTrue (goes_before p.diagram x.task (release_of p x) y.task (release_of p y))

-- the one that goes before all others for which Q holds; none if it holds for none
abbrev pub IsFirst : {X : Type 0} → (X → X → Type 0) → (X → Type 0) → Option X → Type 0
IsFirst {X} before Q None = (y : X) → Q y → ⊥
IsFirst {X} before Q (Some x) = Q x × ((y : X) → Q y → (y ≡ x) ⊎ before x y)

-- whether the instance is the one that is served
abbrev pub is_served : Instance → Option Instance → Bool
is_served x None = false
is_served x (Some y) = (y.task == x.task) && (y.number == x.number)

-- in how many ticks before t the instance is served
unfoldable pub served_ticks : (ℕ → Option Instance) → Instance → ℕ → ℕ
served_ticks serve x zero = 0
served_ticks serve x (suc t) = served_ticks serve x t + (if is_served x (serve t) then 1 else 0)

-- what is left of the instance at t: its task's cost except the ticks before t in which it is served
abbrev pub left_of : Plan → (ℕ → Option Instance) → Instance → ℕ → ℕ
left_of p serve x t = (declared_task p x.task).cost - served_ticks serve x t

-- each tick is given to one that waits, if to any
abbrev pub ServesWaiting : Plan → (ℕ → Option Instance) → Type 0
ServesWaiting p serve = (t : ℕ) (x : Instance) → serve t ≡ Some x → Waits p (left_of p serve) t x

-- in the k ticks from t on the instance alone is served
pub record Ran (serve : ℕ → Option Instance) (x : Instance) (t k : ℕ) : Type 0 where
  pub own : served_ticks serve x (t + k) ≡ served_ticks serve x t + k
  pub others : (y : Instance) → y ≢ x → served_ticks serve y (t + k) ≡ served_ticks serve y t

-- one processor: each tick serves the first of those that wait, and none if none waits
pub record IsService (p : Plan) (serve : ℕ → Option Instance) : Type 0 where
  pub each : (t : ℕ) → IsFirst (GoesBefore p) (Waits p (left_of p serve) t) (serve t)
