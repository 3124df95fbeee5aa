use Rattle.rank_order.specs.ServiceOf.{service}
use Rattle.rank_order.proofs.OneService.{one_service}
use Rattle.rank_order.proofs.SomeService.{service_is}
use Rattle.rank_order.proofs.laws.each_plan_has_one_service.Goals as goal

pub returns-clause-there : goal.returns-clause-there
returns-clause-there c = service_is

pub returns-clause-only : goal.returns-clause-only
returns-clause-only c = λ p serve h. one_service p serve (service p) h (service_is p)
