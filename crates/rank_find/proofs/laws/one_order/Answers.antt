use Rattle.rank_find.proofs.OrderFronts.{one-order}
use Rattle.rank_find.proofs.laws.one_order.Goals as goal

pub returns : goal.returns
returns c = one-order
