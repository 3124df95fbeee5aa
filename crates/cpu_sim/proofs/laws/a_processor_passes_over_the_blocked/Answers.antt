use Rattle.std.proofs.Common.{refl}
use Rattle.cpu_sim.specs.Services.{services}
use Rattle.cpu_sim.proofs.OneCpu.{serves-one}
use Rattle.cpu_sim.proofs.SomeServiceOn.{services-are}
use Rattle.cpu_sim.proofs.laws.a_processor_passes_over_the_blocked.Goals as goal

pub returns : goal.returns
returns c = λ p t x waits free.
    let h = services-are p in
    serves-one p (services p) h _ t _ refl (h.each _ t) x (record { waits = waits; own = refl; free = free })
