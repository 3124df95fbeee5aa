use Rattle.std.proofs.Common.{refl}
use Rattle.dbp_rules.specs.Wired.{wiring_of}
use Rattle.dbp_rules.specs.declared.step.Count.TheVariants.{Ranked}
use Rattle.dbp_rules.proofs.SoundAnswers.{ranked_hears}
use Rattle.dbp_rules.proofs.SoundOwn.{own_wiring}
use Rattle.dbp_rules.proofs.SoundRuns.{rows_of, reached_sound}
use Rattle.dbp_rules.proofs.laws.a_ranked_look_is_ready.Goals as goal

pub returns : goal.returns
returns c = λ p steps s i r leads named free. ranked_hears p (wiring_of p Ranked) (rows_of p) s (own_wiring p Ranked) (reached_sound p Ranked steps s leads) i r named refl free
