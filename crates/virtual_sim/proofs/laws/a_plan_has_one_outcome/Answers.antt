use Rattle.rank_order.specs.Service.{left_of}
use Rattle.rank_order.specs.ServiceOf.{service}
use Rattle.rank_order.proofs.Overruns.{one_overrun, one_time}
use Rattle.virtual_sim.proofs.OneRecord.{one_record}
use Rattle.virtual_sim.proofs.SomeOutcome.{some_outcome}
use Rattle.virtual_sim.proofs.laws.a_plan_has_one_outcome.Goals as goal

pub returns-clause-some : goal.returns-clause-some
returns-clause-some c = some_outcome

pub returns-clause-list : goal.returns-clause-list
returns-clause-list c = one_record

pub returns-clause-time : goal.returns-clause-time
returns-clause-time c = λ p. one_time p (left_of p (service p))

pub returns-clause-instance : goal.returns-clause-instance
returns-clause-instance c = λ p. one_overrun p (left_of p (service p))

pub returns-clause-apart : goal.returns-clause-apart
returns-clause-apart c = λ p script t x record_is overrun. record_is.in_time.none t x overrun.late
