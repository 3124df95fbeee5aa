use Rattle.std.proofs.Common.{◌≡◌, ℕ, List, ap, refl, sym, subst, ◌∙◌}
use Rattle.std.proofs.lemmas.Result.{err_from_is_err_and}
use Rattle.dbp_answers.specs.Answer.{Makes, bounds_of_tasks, of_plan}
use Rattle.dbp_answers.specs.BoundLines.{bound_lines}
use Rattle.dbp_answers.specs.Commands.{the_response_times}
use Rattle.dbp_answers.specs.declared.command.Command.TheVariants.{Rta}
use Rattle.dbp_answers.proofs.StopLaws.{document-stop}
use Rattle.dbp_answers.proofs.answers.response_times_of.Goals as goal

pub returns-in_err-plan-clause-stop : goal.returns-in_err-plan-clause-stop
returns-in_err-plan-clause-stop c =
    let p = err_from_is_err_and c.from_residual.result c.from_residual.ensures.1 in
    rw (p.1, p.2) (document-stop c.args.input.now Rta c.in_err-plan.field-0.0 refl c.in_err-plan.ensures.fault)

pub returns-in-Ok-clause-text : goal.returns-in-Ok-clause-text
returns-in-Ok-clause-text c =
    let p = c.in_ok-plan.plan in
    let bounds = c.in-Ok.bounds in
    let text : c.in_ok-bound_lines-in-Ok.field-0.items ≡ bound_lines p.diagram bounds = c.in_ok-bound_lines-in-Ok.ensures ∙ ap (bound_lines p.diagram) c.items.ensures.value in
    subst (λ (text : List ℕ). Makes c.args.input.now Rta text) (sym text)
    (of_plan Rta the_response_times p (bound_lines p.diagram bounds) c.in_ok-plan.ensures.plan refl (bounds_of_tasks bounds c.in-Ok.ensures.fit c.in-Ok.ensures.bounds))
