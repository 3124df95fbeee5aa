use Rattle.dbp_rules.specs.Wired.{wiring_of}
use Rattle.dbp_rules.proofs.FreeAims.{exact_aim, has_free_slot, some_aim}
use Rattle.dbp_rules.proofs.party_laws.a_releaser_has_a_free_slot.Goals as goal

pub returns-clause-few : goal.returns-clause-few
returns-clause-few c = has_free_slot

pub returns-clause-least : goal.returns-clause-least
returns-clause-least c = some_aim

pub returns-clause-exact : goal.returns-clause-exact
returns-clause-exact c = λ p count r i slot here known free. exact_aim (wiring_of p count) r i slot here known free
