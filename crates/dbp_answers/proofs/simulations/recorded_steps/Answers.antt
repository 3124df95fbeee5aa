use Rattle.std.proofs.Common.{sym}
use Rattle.dbp_answers.proofs.simulations.recorded_steps.Goals as goal

pub returns-in-Err-clause-stop : goal.returns-in-Err-clause-stop
returns-in-Err-clause-stop c = λ input command record_it accepted looked. c.stop_on.ensures input command record_it (rw (sym c.deref.ensures) at accepted) (rw c.in-One.is at looked)

pub returns-in-Err-simulate_cpus_shared-clause-stop : goal.returns-in-Err-simulate_cpus_shared-clause-stop
returns-in-Err-simulate_cpus_shared-clause-stop c = λ input command record_it accepted looked. c.stop_on-in-Err-simulate_cpus_shared.ensures input command record_it (rw (sym c.deref-in-Err-simulate_cpus_shared.ensures) at accepted) (rw c.in-Declared.is at looked)
