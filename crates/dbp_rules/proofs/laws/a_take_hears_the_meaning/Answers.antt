use Rattle.dbp_rules.specs.Wired.{wiring_of}
use Rattle.dbp_rules.proofs.SoundOwn.{own_wiring}
use Rattle.dbp_rules.proofs.SoundRuns.{reached_meaning}
use Rattle.dbp_rules.proofs.TakenWords.{take_meant}
use Rattle.dbp_rules.proofs.laws.a_take_hears_the_meaning.Goals as goal

pub returns : goal.returns
returns c = λ p count table steps s i r meaning leads named free. take_meant p (wiring_of p count) table s i r (own_wiring p count) meaning (reached_meaning p count table steps s meaning leads) named free
