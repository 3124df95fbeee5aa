use Rattle.dbp_answers.proofs.Simulated.{in-time-simulated}
use Rattle.dbp_answers.proofs.laws.a_simulation_in_time_writes_the_meaning.Goals as goal

pub returns : goal.returns
returns c = λ processors input plan command accepted in_time looked. in-time-simulated input plan processors command accepted in_time looked
