use Rattle.dia_exprs.proofs.OperatorLaws.{listed, token-is}
use Rattle.dia_exprs.proofs.laws.read_operator.Goals as goal

pub returns-clause-written : goal.returns-clause-written
returns-clause-written c = listed

pub returns-clause-only : goal.returns-clause-only
returns-clause-only c = token-is
