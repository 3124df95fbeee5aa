use Rattle.dia_check.proofs.ShapeLaws.{one-check-fault}
use Rattle.dia_check.proofs.laws.one_check.Goals as goal

pub returns-clause-one_fault : goal.returns-clause-one_fault
returns-clause-one_fault c = one-check-fault c.one_shape.ensures
