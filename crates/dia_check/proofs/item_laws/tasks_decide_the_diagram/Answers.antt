use Rattle.dia_check.proofs.SameTasks.{checked-again}
use Rattle.dia_check.proofs.item_laws.tasks_decide_the_diagram.Goals as goal

pub returns : goal.returns
returns c = checked-again
