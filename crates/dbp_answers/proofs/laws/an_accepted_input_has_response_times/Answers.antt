use Rattle.dbp_answers.proofs.ResponseLaws.{has-response-times}
use Rattle.dbp_answers.proofs.laws.an_accepted_input_has_response_times.Goals as goal

pub returns : goal.returns
returns c = has-response-times
