use Rattle.dbp_rules.proofs.Parties.{first_releaser_in_shape, first_task_in_shape}
use Rattle.dbp_rules.proofs.party_laws.the_first_parts_are_in_shape.Goals as goal

pub returns-clause-releaser : goal.returns-clause-releaser
returns-clause-releaser c = first_releaser_in_shape

pub returns-clause-task : goal.returns-clause-task
returns-clause-task c = first_task_in_shape
