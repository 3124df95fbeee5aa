use Rattle.std.proofs.Common.{◌-◌, length}
use Rattle.expr_eval.proofs.FrontOrders.{IsFront}
use Rattle.expr_eval.proofs.order.order_lets.Given as goal

abbrev pub invariant-loop-next : goal.invariant-loop-next
invariant-loop-next l = IsFront l.base l.lets l.order

abbrev pub decreases-loop-next : goal.decreases-loop-next
decreases-loop-next l = length l.lets - length l.order
