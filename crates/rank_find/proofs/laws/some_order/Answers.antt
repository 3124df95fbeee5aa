use Rattle.rank_find.proofs.SomeOrder.{some_order}
use Rattle.rank_find.proofs.laws.some_order.Goals as goal

pub returns : goal.returns
returns c = some_order
