use Rattle.dia_check.proofs.ShapeLaws.{one-shape}
use Rattle.dia_check.proofs.laws.one_shape.Goals as goal

pub returns : goal.returns
returns c = one-shape c.one_front_order.ensures
