use Rattle.dia_tokens.proofs.SpellingLaws.{one-spelling}
use Rattle.dia_tokens.proofs.laws.one_spelling.Goals as goal

pub returns : goal.returns
returns c = one-spelling
