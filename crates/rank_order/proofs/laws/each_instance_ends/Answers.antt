use Rattle.rank_order.proofs.InstanceEnds.{has_end}
use Rattle.rank_order.proofs.laws.each_instance_ends.Goals as goal

pub returns : goal.returns
returns c = λ p serve x service is. has_end p serve service x is
