use Rattle.word_rule.proofs.StepLaws.{keeps_stored_plainly}
use Rattle.word_rule.proofs.laws.a_step_that_stores_keeps_the_rule.Goals as goal

pub returns : goal.returns
returns c = λ p t h id v e q there own stores. keeps_stored_plainly p t h id v there e own.named own.mine own.free own.put q stores
