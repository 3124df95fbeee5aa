use Rattle.dia_tokens.proofs.OneLine.{no-fault, one-fault}
use Rattle.dia_tokens.proofs.laws.one_fault.Goals as goal

pub returns-clause-none : goal.returns-clause-none
returns-clause-none c = no-fault

pub returns-clause-one : goal.returns-clause-one
returns-clause-one c = one-fault
