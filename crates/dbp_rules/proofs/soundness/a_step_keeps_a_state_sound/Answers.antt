use Rattle.sync_meaning.proofs.OneMeaning.{meaning_solves}
use Rattle.dbp_plan.specs.Table.{table_row}
use Rattle.dbp_rules.proofs.SoundKept.{sound_kept}
use Rattle.dbp_rules.proofs.soundness.a_step_keeps_a_state_sound.Goals as goal

pub returns : goal.returns
returns c = λ p count table s e meaning sound named free. sound_kept p count (table_row table) s e (meaning_solves p.diagram p.samples p.batches table p.rules meaning) sound named free
