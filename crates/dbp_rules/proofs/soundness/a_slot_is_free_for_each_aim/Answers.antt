use Rattle.dbp_rules.specs.Wired.{wiring_of}
use Rattle.dbp_rules.proofs.FreeAims.{aim_named, exact_aim, has_free_slot, some_aim}
use Rattle.dbp_rules.proofs.Parties.{kept_size}
use Rattle.dbp_rules.proofs.soundness.a_slot_is_free_for_each_aim.Goals as goal

pub returns-clause-few : goal.returns-clause-few
returns-clause-few c = λ p count rows s i sound named. has_free_slot p count s.releaser i named (kept_size p (wiring_of p count) rows s sound i named)

pub returns-clause-least : goal.returns-clause-least
returns-clause-least c = λ p count rows s i sound here known.
    some_aim p count s.releaser i (kept_size p (wiring_of p count) rows s sound i (aim_named p count s.releaser.place i here)) here known

pub returns-clause-exact : goal.returns-clause-exact
returns-clause-exact c = λ p count s i slot here known free. exact_aim (wiring_of p count) s.releaser i slot here known free
