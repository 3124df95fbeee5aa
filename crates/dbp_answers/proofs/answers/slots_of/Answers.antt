use Rattle.std.proofs.Common.{ℕ, List, refl, sym, subst}
use Rattle.std.proofs.lemmas.Result.{err_from_is_err_and}
use Rattle.dbp_answers.specs.Answer.{Makes, made_of_plan, of_plan}
use Rattle.dbp_answers.specs.Commands.{a_text_of_it}
use Rattle.dbp_plan.specs.declared.plan.Plan.{Plan}
use Rattle.dbp_answers.specs.SlotLines.{slot_lines}
use Rattle.dbp_answers.specs.declared.command.Command.TheVariants as command
use Rattle.dbp_answers.proofs.StopLaws.{document-stop}
use Rattle.dbp_answers.proofs.answers.slots_of.Goals as goal

pub returns-in_err-plan-clause-stop : goal.returns-in_err-plan-clause-stop
returns-in_err-plan-clause-stop c =
    let p = err_from_is_err_and c.from_residual.result c.from_residual.ensures.1 in
    rw (p.1, p.2) (document-stop c.args.input.now command.Plan c.in_err-plan.field-0.0 refl c.in_err-plan.ensures.fault)

pub returns-clause-text : goal.returns-clause-text
returns-clause-text c =
    subst (λ (text : List ℕ). Makes c.args.input.now command.Plan text) (sym c.in_ok-slot_lines.ensures) (of_plan command.Plan (a_text_of_it (λ (p : Plan). slot_lines p.diagram)) c.in_ok-plan.plan (slot_lines c.in_ok-plan.plan.diagram) c.in_ok-plan.ensures.plan refl (made_of_plan (λ (p : Plan). slot_lines p.diagram)))
