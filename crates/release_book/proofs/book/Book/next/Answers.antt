use Rattle.std.proofs.Common.{subst}
use Rattle.dbp_rules.specs.declared.wiring.Wiring.{Wiring}
use Rattle.release_book.specs.NextStep.{IsNextStep}
use Rattle.release_book.proofs.BookSteps.{step_allowed, step_named}
use Rattle.release_book.proofs.book.Book.next.Goals as goal

pub returns-clause-next : goal.returns-clause-next
returns-clause-next c = subst (λ (w : Wiring). IsNextStep w c.args.self.now.part c.next_step.result) c.requires c.next_step.ensures

pub returns-clause-named : goal.returns-clause-named
returns-clause-named c = λ e is.
    step_named c.args.plan.now c.args.self.now c.requires c.next_step.result e (returns-clause-next c) is

pub returns-clause-allowed : goal.returns-clause-allowed
returns-clause-allowed c = λ e is.
    step_allowed c.args.plan.now c.args.self.now c.requires c.next_step.result e (returns-clause-next c) is
