use Rattle.std.proofs.Common.{subst, length}
use Rattle.dbp_rules.specs.Rules.{IsNamedWithin}
use Rattle.dbp_rules.specs.Wired.{wiring_of}
use Rattle.dbp_rules.specs.declared.step.Count.TheVariants.{All}
use Rattle.dbp_rules.proofs.Parties.{releaser_in_shape}
use Rattle.dbp_rules.proofs.Wirings.{wiring-whole}
use Rattle.release_book.proofs.NextSteps.{least_next, may_make}
use Rattle.release_book.proofs.laws.a_next_step_is_allowed.Goals as goal

pub returns-clause-named : goal.returns-clause-named
returns-clause-named c = λ p rows s e step sound next is.
    subst (λ n. IsNamedWithin n (length p.diagram.links) step) (wiring-whole p All).tasks
    (may_make p (wiring_of p All) (wiring-whole p All) s.releaser (releaser_in_shape p (wiring_of p All) rows s sound) e step next is).named

pub returns-clause-slot : goal.returns-clause-slot
returns-clause-slot c = λ p rows s i slot sound next.
    least_next p (wiring_of p All) (wiring-whole p All) s.releaser (releaser_in_shape p (wiring_of p All) rows s sound) i slot next
