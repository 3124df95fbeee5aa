use Rattle.dbp_rules.proofs.TableSizes.{same_sizes}
use Rattle.dbp_rules.proofs.word_laws.the_table_has_the_sizes_of_the_wiring.Goals as goal

pub returns : goal.returns
returns c = λ p. same_sizes p
