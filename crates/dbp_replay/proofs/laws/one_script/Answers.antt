use Rattle.dbp_replay.proofs.OneScript.{script-once, script-no-fault, fault-once}
use Rattle.dbp_replay.proofs.laws.one_script.Goals as goal

pub returns-clause-one : goal.returns-clause-one
returns-clause-one c = script-once

pub returns-clause-none : goal.returns-clause-none
returns-clause-none c = script-no-fault

pub returns-clause-one_fault : goal.returns-clause-one_fault
returns-clause-one_fault c = fault-once
