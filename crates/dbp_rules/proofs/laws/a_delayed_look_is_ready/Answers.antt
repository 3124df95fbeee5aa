use Rattle.dbp_rules.specs.Wired.{wiring_of}
use Rattle.dbp_rules.proofs.SoundAnswers.{delayed_hears}
use Rattle.dbp_rules.proofs.SoundOwn.{own_wiring}
use Rattle.dbp_rules.proofs.SoundRuns.{rows_of, reached_sound}
use Rattle.dbp_rules.proofs.laws.a_delayed_look_is_ready.Goals as goal

pub returns : goal.returns
returns c = λ p count steps s i r leads named free late. delayed_hears p (wiring_of p count) (rows_of p) s (own_wiring p count) (reached_sound p count steps s leads) i r named free late
