use Rattle.dbp_rules.proofs.TableSizes.{order_small, slots_few}
use Rattle.dbp_rules.proofs.word_laws.an_order_has_small_numbers.Goals as goal

pub returns-clause-slots : goal.returns-clause-slots
returns-clause-slots c = λ p count i below. slots_few p count i below

pub returns-clause-order : goal.returns-clause-order
returns-clause-order c = λ p count i o below fits. order_small p count i o below fits
