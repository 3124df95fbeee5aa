-- Orders and cycles of lets.
use Rattle.std.proofs.Common.{◌≡◌, ℕ, ◌+◌, ◌<◌, All, List, length, arith}
use Rattle.std.proofs.lemmas.Option.{slice_get_within}
use Rattle.dbp_plan.specs.declared.diagram.Let.{Let}
use Rattle.dbp_plan.specs.LetOrder.{IsLetOrder, VariablesBelow}
use Rattle.dbp_plan.specs.ListItems.{all_place}
use Rattle.dbp_plan.specs.Listed.{AreListed}
use Rattle.dbp_plan.proofs.Cycles as cycles
use Rattle.expr_eval.specs.LetOrders.{Uses, AllWait, IsCycle, LiesOnCycle}
use Rattle.expr_eval.proofs.FrontOrders.{IsFront, order_ready}

-- a let that uses one is there
user_below : (base : ℕ) (lets : List Let) (i j : ℕ) → Uses base lets i j → i < length lets
user_below base lets i j used = slice_get_within lets i used.user used.is

-- and if variables are those of lets, or below them, so is one that is used
used_below : (base : ℕ) (lets : List Let) → All (λ l. VariablesBelow (base + length lets) l.expr.nodes) lets → (i j : ℕ) → Uses base lets i j → j < length lets
used_below base lets variables i j used =
    let variable : base + j < base + length lets =
    all_place (λ l. VariablesBelow (base + length lets) l.expr.nodes) lets i used.user variables used.is used.place (base + j) used.variable in
    omega arith

pub cycle_listed : (base : ℕ) (lets : List Let) (cycle : List ℕ) → IsCycle base lets cycle → AreListed (length lets) cycle
cycle_listed base lets cycle loops = cycles.cycle_listed (Uses base lets) (length lets) cycle (user_below base lets) loops

-- an order holds each let after those that it uses, so there is no cycle
pub no_order : (base : ℕ) (lets : List Let) (order cycle : List ℕ) → IsLetOrder base lets order → IsCycle base lets cycle → ⊥
no_order base lets order cycle is loops =
    cycles.no_order (Uses base lets) (length lets) order cycle (user_below base lets) (record { named = is.named; once = is.once }) (omega (arith, is.size)) (order_ready base lets order is) loops

-- if no let that isn't placed is ready, and none lies on a cycle, all are placed
pub all_placed : (base : ℕ) (lets : List Let) (placed : List ℕ) → All (λ l. VariablesBelow (base + length lets) l.expr.nodes) lets → IsFront base lets placed → AllWait base lets placed
    → ((i : ℕ) → i < length lets → LiesOnCycle base lets i → ⊥) → length placed ≡ length lets
all_placed base lets placed variables front wait none =
    cycles.all_placed (Uses base lets) (length lets) placed (used_below base lets variables) front.listed wait none
