use Rattle.rank_find.proofs.Cycles.{no-order}
use Rattle.rank_find.proofs.OrderFronts.{order_once}
use Rattle.rank_find.proofs.laws.no_order_of_a_cycle.Goals as goal

pub returns : goal.returns
returns c = λ d order cycle closed is loops. no-order d order cycle closed (order_once d order is) is loops
