use Rattle.std.proofs.Common.{subst, arith}
use Rattle.dbp_slots.specs.TableWords.{IsWord, Sizes}
use Rattle.dbp_rules.specs.Wired.{wiring_of}
use Rattle.dbp_rules.specs.declared.step.Count.TheVariants.{All}
use Rattle.dbp_rules.proofs.LoadedWords.{hears_loaded, loaded_inside, loads_number}
use Rattle.dbp_rules.proofs.TableSizes.{same_sizes, slots_few}
use Rattle.dbp_rules.proofs.WiringParts.{wired_tasks}
use Rattle.dbp_rules.proofs.word_laws.a_step_hears_one_word.Goals as goal

pub returns-clause-word : goal.returns-clause-word
returns-clause-word c = λ p rows s e q sound named free is. subst (λ (x : Sizes). IsWord x q) (same_sizes p) (loaded_inside p (wiring_of p All) s sound.shape e q named free is)

pub returns-clause-loaded : goal.returns-clause-loaded
returns-clause-loaded c = λ p count rows s e sound fit named free. loads_number p (wiring_of p count) s sound.shape (λ i below. slots_few p count i (omega (arith, wired_tasks p count))) fit e named free

pub returns-clause-heard : goal.returns-clause-heard
returns-clause-heard c = λ w s e. hears_loaded w s e
