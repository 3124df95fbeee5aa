use Rattle.std.proofs.Common.{arith}
use Rattle.std.proofs.lemmas.Bool.{ltb-false, ltb-true}
use Rattle.dbp_core.proofs.RankMasks.{none_below, some_below}
use Rattle.dbp_core.proofs.rank_mask.RankMask.has_above.Goals as goal

pub returns-clause-none : goal.returns-clause-none
returns-clause-none c = λ no_rank r below. none_below c.args.self.bits r c.args.rank (omega arith) (ltb-false _ c.args.rank no_rank) below

pub returns-clause-some : goal.returns-clause-some
returns-clause-some c = λ few rank. some_below c.args.self.bits c.args.rank (omega arith) (ltb-true _ c.args.rank rank) few
