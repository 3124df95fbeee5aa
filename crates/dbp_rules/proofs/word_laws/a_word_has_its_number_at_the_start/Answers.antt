use Rattle.dbp_rules.proofs.StartNumbers.{starts_with}
use Rattle.dbp_rules.proofs.word_laws.a_word_has_its_number_at_the_start.Goals as goal

pub returns : goal.returns
returns c = λ p count q is. starts_with p count q is
