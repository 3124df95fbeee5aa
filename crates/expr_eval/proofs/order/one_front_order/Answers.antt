use Rattle.expr_eval.proofs.FrontOrders.{one_front}
use Rattle.expr_eval.proofs.order.one_front_order.Goals as goal

pub returns : goal.returns
returns c = one_front
