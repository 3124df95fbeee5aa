use Rattle.dbp_rules.specs.Wired.{wiring_of}
use Rattle.dbp_rules.proofs.SoundAnswers.{delayed_hears}
use Rattle.dbp_rules.proofs.SoundOwn.{own_wiring}
use Rattle.dbp_rules.proofs.soundness.a_sound_delayed_look_is_ready.Goals as goal

pub returns : goal.returns
returns c = λ p count rows s i r sound named free late. delayed_hears p (wiring_of p count) rows s (own_wiring p count) sound i r named free late
