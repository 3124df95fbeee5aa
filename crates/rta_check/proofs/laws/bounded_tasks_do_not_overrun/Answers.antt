use Rattle.rta_check.proofs.Theorem.{no_overrun}
use Rattle.rta_check.proofs.laws.bounded_tasks_do_not_overrun.Goals as goal

pub returns : goal.returns
returns c = no_overrun
