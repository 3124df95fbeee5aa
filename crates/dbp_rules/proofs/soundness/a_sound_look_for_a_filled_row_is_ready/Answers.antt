use Rattle.dbp_rules.specs.Wired.{wiring_of}
use Rattle.dbp_rules.proofs.SoundAnswers.{filled_hears, hears_filled}
use Rattle.dbp_rules.proofs.SoundOwn.{own_wiring}
use Rattle.dbp_rules.proofs.soundness.a_sound_look_for_a_filled_row_is_ready.Goals as goal

pub returns-clause-ready : goal.returns-clause-ready
returns-clause-ready c = λ p count rows s i r sound named free filled. filled_hears p (wiring_of p count) rows s (own_wiring p count) sound i r named free filled

pub returns-clause-filled : goal.returns-clause-filled
returns-clause-filled c = λ p count rows s i r sound named free is. hears_filled p (wiring_of p count) rows s (own_wiring p count) sound i r named free is
