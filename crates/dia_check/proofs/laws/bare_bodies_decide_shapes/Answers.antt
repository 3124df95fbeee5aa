use Rattle.dia_check.proofs.BareLaws.{same-bare-diagrams, same-faultless, same-line-faults}
use Rattle.dia_check.proofs.laws.bare_bodies_decide_shapes.Goals as goal

pub returns-clause-diagram : goal.returns-clause-diagram
returns-clause-diagram c = same-bare-diagrams c.one_front_order.ensures

pub returns-clause-faults : goal.returns-clause-faults
returns-clause-faults c = same-line-faults

pub returns-clause-none : goal.returns-clause-none
returns-clause-none c = same-faultless
