use Rattle.instance_steps.proofs.RowsKept.{ended_rows_all, ended_rows_stay}
use Rattle.instance_steps.proofs.laws.rows_of_ended_instances.Goals as goal

pub returns-clause-stay : goal.returns-clause-stay
returns-clause-stay c = ended_rows_stay

pub returns-clause-all : goal.returns-clause-all
returns-clause-all c = ended_rows_all
