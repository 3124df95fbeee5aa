use Rattle.std.proofs.Common.{refl}
use Rattle.dbp_rules.specs.Wired.{wiring_of}
use Rattle.dbp_rules.specs.declared.step.Count.TheVariants.{Ranked}
use Rattle.dbp_rules.proofs.SoundAnswers.{ranked_hears}
use Rattle.dbp_rules.proofs.SoundOwn.{own_wiring}
use Rattle.dbp_rules.proofs.soundness.a_sound_ranked_look_is_ready.Goals as goal

pub returns : goal.returns
returns c = λ p rows s i r sound named free. ranked_hears p (wiring_of p Ranked) rows s (own_wiring p Ranked) sound i r named refl free
