use Rattle.std.proofs.Common.{subst, arith}
use Rattle.dbp_slots.specs.TableWords.{IsWord, Sizes}
use Rattle.dbp_rules.specs.Wired.{wiring_of}
use Rattle.dbp_rules.specs.declared.step.Count.TheVariants.{All}
use Rattle.dbp_rules.proofs.StoredNumbers.{number_below, number_stored, stored_inside}
use Rattle.dbp_rules.proofs.TableSizes.{same_sizes, slots_few}
use Rattle.dbp_rules.proofs.WiringParts.{wired_tasks}
use Rattle.dbp_rules.proofs.word_laws.a_step_stores_its_number.Goals as goal

pub returns-clause-word : goal.returns-clause-word
returns-clause-word c = λ p rows s e q sound named free is. subst (λ (x : Sizes). IsWord x q) (same_sizes p) (stored_inside p (wiring_of p All) s sound.shape e q named free is)

pub returns-clause-number : goal.returns-clause-number
returns-clause-number c = λ p count rows s e q sound named free is. number_stored p (wiring_of p count) s sound.shape e q named free is

pub returns-clause-below : goal.returns-clause-below
returns-clause-below c = λ p count rows s e sound put named free. number_below p (wiring_of p count) s sound.shape (λ i below. slots_few p count i (omega (arith, wired_tasks p count))) e put named free
