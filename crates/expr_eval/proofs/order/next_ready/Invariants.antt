use Rattle.std.proofs.Common.{ℕ, ◌<◌, Contains}
use Rattle.expr_eval.specs.LetOrders.{Waits}
use Rattle.expr_eval.proofs.order.next_ready.Given as goal

abbrev pub invariant-loop-i : goal.invariant-loop-i
invariant-loop-i l = (k : ℕ) → k < l.i → (Contains l.placed k → ⊥) → Waits l.base l.lets l.placed k
