use Rattle.std.proofs.Common.{ℕ, List, sym, subst}
use Rattle.dbp_answers.specs.Answer.{Answers, IsRefused, overran, refused}
use Rattle.dbp_answers.specs.Stops.{IsStopOf}
use Rattle.dbp_answers.specs.declared.status.Status.TheVariants.{Refused}
use Rattle.dbp_answers.proofs.answers.stop_answer.Goals as goal

pub returns-in_ok-refusal_line-in-Refused-clause-answer : goal.returns-in_ok-refusal_line-in-Refused-clause-answer
returns-in_ok-refusal_line-in-Refused-clause-answer c = λ input command stopped.
    let refusal = c.in-Refused.refusal in
    let is : IsRefused input command refusal = subst (IsStopOf input command) c.in-Refused.is stopped in
    subst (λ (text : List ℕ). Answers input command Refused text) (sym c.in_ok-refusal_line-in-Refused.ensures) (refused refusal is)

pub returns-in-Overrun-clause-answer : goal.returns-in-Overrun-clause-answer
returns-in-Overrun-clause-answer c = λ input command stopped. overran c.in-Overrun.line.items (subst (IsStopOf input command) c.in-Overrun.is stopped)
