use Rattle.dbp_rules.proofs.Parties.{releaser_moved, task_moved}
use Rattle.dbp_rules.proofs.party_laws.a_step_moves_its_party.Goals as goal

pub returns-clause-releaser : goal.returns-clause-releaser
returns-clause-releaser c = releaser_moved

pub returns-clause-task : goal.returns-clause-task
returns-clause-task c = task_moved
