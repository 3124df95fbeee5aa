use Rattle.instance_steps.proofs.PlaysLaws.{plays_apart, plays_on}
use Rattle.instance_steps.proofs.laws.pieces_go_together.Goals as goal

pub returns-clause-together : goal.returns-clause-together
returns-clause-together c = plays_on

pub returns-clause-apart : goal.returns-clause-apart
returns-clause-apart c = plays_apart
