use Rattle.dbp_rules.specs.Wired.{wiring_of}
use Rattle.dbp_rules.proofs.StoredWords.{parts_kept, words_kept}
use Rattle.dbp_rules.proofs.soundness.a_step_stores_one_word.Goals as goal

pub returns-clause-words : goal.returns-clause-words
returns-clause-words c = λ p count rows s e sound named free. words_kept p (wiring_of p count) s sound.shape e named free

pub returns-clause-parts : goal.returns-clause-parts
returns-clause-parts c = λ p count rows s e sound named. parts_kept p (wiring_of p count) s sound.shape e named
