use Rattle.dia_check.proofs.ShapeLaws.{no-fault-of-a-shape, one-shape-fault}
use Rattle.dia_check.proofs.laws.one_shape_fault.Goals as goal

pub returns-clause-none : goal.returns-clause-none
returns-clause-none c = λ doc s line code shape fault. no-fault-of-a-shape doc line code shape.faultless fault

pub returns-clause-one : goal.returns-clause-one
returns-clause-one c = one-shape-fault
