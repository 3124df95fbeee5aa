use Rattle.dbp_rules.specs.Wired.{wiring_of}
use Rattle.dbp_rules.proofs.Parties.{releaser_in_shape, releaser_loads, task_in_shape, task_loads}
use Rattle.dbp_rules.proofs.party_laws.sound_parts_are_in_shape.Goals as goal

pub returns-clause-releaser : goal.returns-clause-releaser
returns-clause-releaser c = λ p count rows s sound. releaser_in_shape p (wiring_of p count) rows s sound

pub returns-clause-task : goal.returns-clause-task
returns-clause-task c = λ p count rows s i sound named. task_in_shape p (wiring_of p count) rows s sound i named

pub returns-clause-releaser_loads : goal.returns-clause-releaser_loads
returns-clause-releaser_loads c = λ p count rows s e sound named. releaser_loads p (wiring_of p count) rows s sound e named

pub returns-clause-task_loads : goal.returns-clause-task_loads
returns-clause-task_loads c = λ p count rows s e i sound named is free. task_loads p (wiring_of p count) rows s sound e i named is free
