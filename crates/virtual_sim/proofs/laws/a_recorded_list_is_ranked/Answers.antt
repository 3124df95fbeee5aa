use Rattle.virtual_sim.proofs.EndEvents.{record_leads}
use Rattle.virtual_sim.proofs.laws.a_recorded_list_is_ranked.Goals as goal

pub returns : goal.returns
returns c = record_leads
