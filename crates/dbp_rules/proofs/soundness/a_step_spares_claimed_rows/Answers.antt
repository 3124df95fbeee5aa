use Rattle.dbp_rules.specs.Wired.{wiring_of}
use Rattle.dbp_rules.proofs.SoundOwn.{own_wiring}
use Rattle.dbp_rules.proofs.SparedClaims.{spared}
use Rattle.dbp_rules.proofs.soundness.a_step_spares_claimed_rows.Goals as goal

pub returns : goal.returns
returns c = λ p count rows s e sound named free. spared p (wiring_of p count) rows s (own_wiring p count) sound e named free
