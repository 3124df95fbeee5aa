use Rattle.dia_tokens.proofs.KeywordLaws.{keyword-again}
use Rattle.dia_tokens.proofs.laws.read_keyword.Goals as goal

pub returns : goal.returns
returns c = keyword-again
