use Rattle.dia_check.proofs.SameTasks.{shape-there}
use Rattle.dia_check.proofs.item_laws.tasks_decide_the_shape.Goals as goal

pub returns : goal.returns
returns c = shape-there
