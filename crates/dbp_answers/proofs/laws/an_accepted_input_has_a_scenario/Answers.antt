use Rattle.dbp_answers.proofs.ScenarioLaws.{has-scenario}
use Rattle.dbp_answers.proofs.laws.an_accepted_input_has_a_scenario.Goals as goal

pub returns : goal.returns
returns c = λ input name p accepted. has-scenario input p accepted name
