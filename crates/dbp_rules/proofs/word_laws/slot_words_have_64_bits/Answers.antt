use Rattle.dbp_rules.specs.Wired.{wiring_of}
use Rattle.dbp_rules.proofs.WordRanges.{start_fits, step_fits}
use Rattle.dbp_rules.proofs.word_laws.slot_words_have_64_bits.Goals as goal

pub returns-clause-start : goal.returns-clause-start
returns-clause-start c = λ p count fit. start_fits p (wiring_of p count) fit

pub returns-clause-step : goal.returns-clause-step
returns-clause-step c = λ p count s e fit put. step_fits p (wiring_of p count) s e fit put
