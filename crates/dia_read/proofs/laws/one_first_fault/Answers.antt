use Rattle.dia_read.proofs.FaultLaws.{no-fault-of-a-document, one-first-fault}
use Rattle.dia_read.proofs.laws.one_first_fault.Goals as goal

pub returns-clause-none : goal.returns-clause-none
returns-clause-none c = no-fault-of-a-document

pub returns-clause-one : goal.returns-clause-one
returns-clause-one c = one-first-fault
