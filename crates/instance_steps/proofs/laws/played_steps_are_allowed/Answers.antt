use Rattle.instance_steps.proofs.PlaysLaws.{plays_leads, plays_long}
use Rattle.instance_steps.proofs.laws.played_steps_are_allowed.Goals as goal

pub returns-clause-leads : goal.returns-clause-leads
returns-clause-leads c = plays_leads

pub returns-clause-as_many : goal.returns-clause-as_many
returns-clause-as_many c = plays_long
