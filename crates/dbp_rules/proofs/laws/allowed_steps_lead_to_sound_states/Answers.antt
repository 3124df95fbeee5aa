use Rattle.dbp_rules.proofs.SoundRuns.{reached_meaning}
use Rattle.dbp_rules.proofs.laws.allowed_steps_lead_to_sound_states.Goals as goal

pub returns : goal.returns
returns c = λ p count table steps s meaning leads. reached_meaning p count table steps s meaning leads
