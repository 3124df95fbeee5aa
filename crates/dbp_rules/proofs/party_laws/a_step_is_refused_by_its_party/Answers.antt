use Rattle.dbp_rules.proofs.Parties.{releaser_refused, task_allowed, task_refused}
use Rattle.dbp_rules.proofs.party_laws.a_step_is_refused_by_its_party.Goals as goal

pub returns-clause-releaser : goal.returns-clause-releaser
returns-clause-releaser c = releaser_refused

pub returns-clause-task : goal.returns-clause-task
returns-clause-task c = task_refused

pub returns-clause-allowed : goal.returns-clause-allowed
returns-clause-allowed c = task_allowed
