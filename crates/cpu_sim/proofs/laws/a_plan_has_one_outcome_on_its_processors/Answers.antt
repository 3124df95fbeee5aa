use Rattle.rank_order.proofs.Overruns.{one_overrun, one_time}
use Rattle.cpu_sim.specs.Processors.{left_on}
use Rattle.cpu_sim.specs.Services.{services}
use Rattle.cpu_sim.proofs.OneCpuRecord.{one-cpu-record}
use Rattle.cpu_sim.proofs.SomeCpuOutcome.{some_cpu_outcome}
use Rattle.cpu_sim.proofs.laws.a_plan_has_one_outcome_on_its_processors.Goals as goal

pub returns-clause-some : goal.returns-clause-some
returns-clause-some c = some_cpu_outcome

pub returns-clause-list : goal.returns-clause-list
returns-clause-list c = one-cpu-record

pub returns-clause-time : goal.returns-clause-time
returns-clause-time c = λ p. one_time p (left_on p (services p))

pub returns-clause-instance : goal.returns-clause-instance
returns-clause-instance c = λ p. one_overrun p (left_on p (services p))

pub returns-clause-apart : goal.returns-clause-apart
returns-clause-apart c = λ p script t x record_is overrun. record_is.in_time.none t x overrun.late
