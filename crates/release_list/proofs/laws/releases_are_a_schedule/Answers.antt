-- The law, from its proof.
use Rattle.release_list.proofs.Schedules.{scheduled}
use Rattle.release_list.proofs.laws.releases_are_a_schedule.Goals as goal

pub returns : goal.returns
returns c = scheduled
