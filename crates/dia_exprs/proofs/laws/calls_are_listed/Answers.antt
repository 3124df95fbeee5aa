use Rattle.dia_exprs.proofs.OperatorLaws.{calls-listed}
use Rattle.dia_exprs.proofs.laws.calls_are_listed.Goals as goal

pub returns : goal.returns
returns c = calls-listed
