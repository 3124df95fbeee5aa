use Rattle.virtual_sim.proofs.AfterBatches.{one_front, stands_after}
use Rattle.virtual_sim.proofs.laws.a_record_stands_after_each_batch.Goals as goal

pub returns-clause-there : goal.returns-clause-there
returns-clause-there c = λ p script number batch record_is there. stands_after p script number batch record_is there

pub returns-clause-one : goal.returns-clause-one
returns-clause-one c = one_front
