use Rattle.rank_find.proofs.RankedBodies.{ranked_by_order}
use Rattle.rank_find.proofs.laws.ranked_bodies_are_ranked_by_their_order.Goals as goal

pub returns : goal.returns
returns c = ranked_by_order
