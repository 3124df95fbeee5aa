use Rattle.dia_print.proofs.ExpressionLaws.{spells-tokens}
use Rattle.dia_print.proofs.laws.expression_tokens.Goals as goal

pub returns : goal.returns
returns c = spells-tokens
