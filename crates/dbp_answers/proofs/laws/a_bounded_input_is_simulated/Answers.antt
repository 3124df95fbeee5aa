use Rattle.dbp_answers.proofs.ResponseLaws.{bounded-simulated, response-lines}
use Rattle.dbp_answers.proofs.laws.a_bounded_input_is_simulated.Goals as goal

pub returns : goal.returns
returns c = λ input plan bounds accepted none are bounded. (response-lines input plan accepted bounds none are, bounded-simulated input plan accepted bounds none are bounded)
