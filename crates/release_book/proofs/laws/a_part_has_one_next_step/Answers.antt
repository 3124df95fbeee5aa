use Rattle.dbp_rules.specs.Wired.{wiring_of}
use Rattle.dbp_rules.specs.declared.step.Count.TheVariants.{All}
use Rattle.dbp_rules.proofs.Wirings.{wiring-whole}
use Rattle.release_book.proofs.NextSteps.{one_next, some_next}
use Rattle.release_book.proofs.laws.a_part_has_one_next_step.Goals as goal

pub returns-clause-some : goal.returns-clause-some
returns-clause-some c = some_next

pub returns-clause-one : goal.returns-clause-one
returns-clause-one c = λ p r e f ok next also. one_next p (wiring_of p All) (wiring-whole p All) r ok e f next also
