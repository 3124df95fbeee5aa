use Rattle.dia_tokens.proofs.OneLine.{one-list}
use Rattle.dia_tokens.proofs.laws.one_list.Goals as goal

pub returns : goal.returns
returns c = one-list
