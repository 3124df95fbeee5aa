use Rattle.dia_tokens.proofs.LineSpells.{line-spells}
use Rattle.dia_tokens.proofs.laws.line_spells.Goals as goal

pub returns : goal.returns
returns c = line-spells
