use Rattle.dbp_rules.specs.Wired.{wiring_of}
use Rattle.dbp_rules.proofs.SoundOwn.{own_wiring}
use Rattle.dbp_rules.proofs.SoundRuns.{rows_of, reached_sound}
use Rattle.dbp_rules.proofs.SparedClaims.{spared}
use Rattle.dbp_rules.proofs.laws.a_step_changes_no_claimed_row.Goals as goal

pub returns : goal.returns
returns c = λ p count steps s e leads named free. spared p (wiring_of p count) (rows_of p) s (own_wiring p count) (reached_sound p count steps s leads) e named free
