use Rattle.cpu_sim.specs.Services.{services}
use Rattle.cpu_sim.proofs.OneCpu.{some-serves}
use Rattle.cpu_sim.proofs.SomeServiceOn.{services-are}
use Rattle.cpu_sim.proofs.laws.some_processor_serves.Goals as goal

pub returns : goal.returns
returns c = λ p. some-serves p (services p) (services-are p)
