use Rattle.rank_order.proofs.Overruns.{one_overrun}
use Rattle.rank_order.proofs.SomeOverrun.{overrun_or_none}
use Rattle.rank_order.proofs.laws.a_service_has_one_overrun.Goals as goal

pub returns-clause-there : goal.returns-clause-there
returns-clause-there c = overrun_or_none

pub returns-clause-instance : goal.returns-clause-instance
returns-clause-instance c = one_overrun
