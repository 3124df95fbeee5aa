use Rattle.std.proofs.Common.{sym}
use Rattle.std.proofs.lemmas.Result.{err_from_is_err_and}
use Rattle.dbp_answers.specs.Answer.{of_plan}
use Rattle.dbp_answers.specs.Commands.{a_simulation}
use Rattle.dbp_answers.proofs.AnswerLaws.{looks-at-plan}
use Rattle.dbp_answers.proofs.StopLaws.{document-stop}
use Rattle.dbp_answers.proofs.simulations.simulation_of.Goals as goal

pub returns-in_err-plan-clause-stop : goal.returns-in_err-plan-clause-stop
returns-in_err-plan-clause-stop c =
    let p = err_from_is_err_and c.from_residual.result c.from_residual.ensures.1 in
    rw (p.1, p.2) (λ command looked. document-stop c.args.input.now command c.in_err-plan.field-0.0 (looks-at-plan command (a_simulation c.args.processors c.args.record_it) looked) c.in_err-plan.ensures.fault)

pub returns-in_err-text-clause-stop : goal.returns-in_err-text-clause-stop
returns-in_err-text-clause-stop c =
    let p = err_from_is_err_and c.from_residual-in_err-text.result c.from_residual-in_err-text.ensures.1 in
    rw (p.1, p.2) (λ command looked. c.in_err-text.ensures.stop c.args.input.now command (rw (sym c.in_ok-shared.ensures) at c.in_ok-plan.ensures.plan) looked)

pub returns-clause-text : goal.returns-clause-text
returns-clause-text c =
    let accepted = c.in_ok-plan.ensures.plan in
    λ command looked. of_plan command (a_simulation c.args.processors c.args.record_it) c.in_ok-plan.plan c.in_ok-text.text.items accepted looked (rw c.in_ok-shared.ensures at (c.in_ok-text.ensures.text accepted.doc))
