use Rattle.std.proofs.Common.{sym, subst}
use Rattle.dbp_rules.specs.declared.parts.ReleaserPart.{ReleaserPart}
use Rattle.release_book.specs.Releasers.{IsReleaserIn}
use Rattle.release_book.proofs.BookSteps.{first_part}
use Rattle.release_book.proofs.book.Book.new.Goals as goal

pub invariant_of-result : goal.invariant_of-result
invariant_of-result c = record { releaser = subst (λ (r : ReleaserPart). IsReleaserIn c.in_ok-wiring.wiring r) (sym c.in_ok-part.ensures) (first_part c.in_ok-wiring.wiring) }
