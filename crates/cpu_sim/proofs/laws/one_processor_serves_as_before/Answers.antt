use Rattle.std.proofs.Common.{◌+◌, [], get_or, arith}
use Rattle.cpu_sim.specs.Services.{services}
use Rattle.cpu_sim.proofs.OneCpu.{end-here, end-there, none-here, none-there, overrun-here, overrun-there, serves-as-before}
use Rattle.cpu_sim.proofs.SomeServiceOn.{services-are}
use Rattle.cpu_sim.proofs.laws.one_processor_serves_as_before.Goals as goal

pub returns-clause-serves : goal.returns-clause-serves
returns-clause-serves c = λ p cpu all. serves-as-before p (services p) (services-are p) cpu all

pub returns-clause-ends : goal.returns-clause-ends
returns-clause-ends c = λ p cpu all x e is. (end-there p (services p) (services-are p) cpu all x e is, end-here p (services p) (services-are p) cpu all x e is)

pub returns-clause-listed : goal.returns-clause-listed
returns-clause-listed c = λ p cpu all ends i k are il kl. end-there p (services p) (services-are p) cpu all (record { task = i; number = k + 1 }) (get_or (get_or ends i []) k 0) (record { task = il; from_one = omega arith; within = omega (arith, kl, are.numbers i il) }) (are.each i k il kl)

pub returns-clause-overrun : goal.returns-clause-overrun
returns-clause-overrun c = λ p cpu all t x. (overrun-there p (services p) (services-are p) cpu all t x, overrun-here p (services p) (services-are p) cpu all t x)

pub returns-clause-none : goal.returns-clause-none
returns-clause-none c = λ p cpu all. (none-there p (services p) (services-are p) cpu all, none-here p (services p) (services-are p) cpu all)
