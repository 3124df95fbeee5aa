use Rattle.dbp_replay.proofs.AllowedSteps.{all_slot_numbers, all_there}
use Rattle.dbp_replay.proofs.laws.allowed_steps_are_printable.Goals as goal

pub returns-clause-there : goal.returns-clause-there
returns-clause-there c = all_there

pub returns-clause-slots : goal.returns-clause-slots
returns-clause-slots c = all_slot_numbers
