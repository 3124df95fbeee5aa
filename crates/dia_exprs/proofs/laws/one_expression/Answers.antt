use Rattle.dia_exprs.proofs.AllTokens.{one-spelled}
use Rattle.dia_exprs.proofs.laws.one_expression.Goals as goal

pub returns : goal.returns
returns c = one-spelled
