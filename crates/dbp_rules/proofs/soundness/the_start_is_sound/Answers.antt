use Rattle.sync_meaning.proofs.OneMeaning.{meaning_solves}
use Rattle.dbp_plan.specs.Table.{table_row}
use Rattle.dbp_rules.specs.Wired.{wiring_of}
use Rattle.dbp_rules.proofs.SoundOwn.{own_wiring}
use Rattle.dbp_rules.proofs.SoundStart.{start_sound}
use Rattle.dbp_rules.proofs.soundness.the_start_is_sound.Goals as goal

pub returns : goal.returns
returns c = λ p count table meaning. start_sound p (wiring_of p count) (table_row table) (own_wiring p count).whole (meaning_solves p.diagram p.samples p.batches table p.rules meaning)
