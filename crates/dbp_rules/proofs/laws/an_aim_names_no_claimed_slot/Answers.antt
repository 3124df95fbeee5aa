use Rattle.std.proofs.Common.{refl}
use Rattle.dbp_rules.specs.Wired.{wiring_of}
use Rattle.dbp_rules.specs.declared.step.Count.TheVariants.{All}
use Rattle.dbp_rules.proofs.SparedClaims.{aims_apart}
use Rattle.dbp_rules.proofs.laws.an_aim_names_no_claimed_slot.Goals as goal

pub returns : goal.returns
returns c = λ p steps s i slot leads free. aims_apart (wiring_of p All) s i slot free refl
