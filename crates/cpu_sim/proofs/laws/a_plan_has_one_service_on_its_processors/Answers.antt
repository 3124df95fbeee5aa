use Rattle.cpu_sim.specs.Services.{services}
use Rattle.cpu_sim.proofs.OneServiceOn.{one-service-on}
use Rattle.cpu_sim.proofs.SomeServiceOn.{services-are}
use Rattle.cpu_sim.proofs.laws.a_plan_has_one_service_on_its_processors.Goals as goal

pub returns-clause-there : goal.returns-clause-there
returns-clause-there c = services-are

pub returns-clause-only : goal.returns-clause-only
returns-clause-only c = λ p serve h. one-service-on p serve (services p) h (services-are p)
