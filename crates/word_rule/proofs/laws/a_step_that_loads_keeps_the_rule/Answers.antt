use Rattle.std.proofs.Common.{get_or, refl}
use Rattle.dbp_slots.specs.TableWords.{address_of, sizes_of}
use Rattle.word_rule.proofs.StepLaws.{keeps_loaded}
use Rattle.word_rule.proofs.laws.a_step_that_loads_keeps_the_rule.Goals as goal

pub returns : goal.returns
returns c = λ p t h id v e q there own loads. keeps_loaded p t h id v there e own.named own.mine own.free own.put q loads (get_or t.words (address_of (sizes_of p.diagram) q) 0) refl
