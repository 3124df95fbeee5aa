use Rattle.dbp_rules.proofs.WordNumbers.{one_order, order_back, order_below, order_number, value_back, value_below, value_number}
use Rattle.dbp_rules.proofs.word_laws.a_number_is_read_back.Goals as goal

pub returns-clause-order : goal.returns-clause-order
returns-clause-order c = λ o fits. order_back o fits

pub returns-clause-order_number : goal.returns-clause-order_number
returns-clause-order_number c = λ x. order_number x

pub returns-clause-order_below : goal.returns-clause-order_below
returns-clause-order_below c = λ o slot number. order_below o slot number

pub returns-clause-one_order : goal.returns-clause-one_order
returns-clause-one_order c = λ o r fits also same. one_order o r fits also same

pub returns-clause-value : goal.returns-clause-value
returns-clause-value c = λ z fits. value_back z fits

pub returns-clause-value_number : goal.returns-clause-value_number
returns-clause-value_number c = λ x below. value_number x below

pub returns-clause-value_below : goal.returns-clause-value_below
returns-clause-value_below c = λ z fits. value_below z fits
