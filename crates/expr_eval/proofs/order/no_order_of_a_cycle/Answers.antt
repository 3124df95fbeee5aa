use Rattle.expr_eval.proofs.Cycles.{no_order}
use Rattle.expr_eval.proofs.order.no_order_of_a_cycle.Goals as goal

pub returns : goal.returns
returns c = no_order
