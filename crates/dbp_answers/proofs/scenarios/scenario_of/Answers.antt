use Rattle.std.proofs.Common.{refl, sym, subst}
use Rattle.std.proofs.lemmas.Result.{err_from_is_err_and}
use Rattle.dia_read.specs.declared.document.Doc.{Doc}
use Rattle.dia_read.specs.Printable.{HasItemLines}
use Rattle.slot_need.specs.Bodies.{IsCheckedDiagramOf}
use Rattle.dbp_answers.specs.Answer.{PlanText, of_plan}
use Rattle.dbp_answers.specs.Commands.{a_scenario}
use Rattle.dbp_answers.specs.declared.command.Command.TheVariants.{Need}
use Rattle.dbp_answers.proofs.ScenarioLaws.{diagram-of-body}
use Rattle.dbp_answers.proofs.StopLaws.{document-stop}
use Rattle.dbp_answers.proofs.scenarios.scenario_of.Goals as goal

pub scenario_text-requires-clause-diagram : goal.scenario_text-requires-clause-diagram
scenario_text-requires-clause-diagram c =
    let a = c.in_ok-doc.ensures.plan in
    let p = c.in_ok-doc.plan in
    subst (λ (d : Doc). IsCheckedDiagramOf d.body p.diagram) a.1 (diagram-of-body c.args.input.now p a.0 (subst HasItemLines (sym a.1) c.in_ok-doc.ensures.lines))

pub returns-in_err-doc-clause-stop : goal.returns-in_err-doc-clause-stop
returns-in_err-doc-clause-stop c =
    let p = err_from_is_err_and c.from_residual.result c.from_residual.ensures.1 in
    rw (p.1, p.2) (document-stop c.args.input.now (Need c.args.name.now) c.in_err-doc.field-0.0 refl c.in_err-doc.ensures.fault)

pub returns-in_err-text-clause-stop : goal.returns-in_err-text-clause-stop
returns-in_err-text-clause-stop c =
    let p = err_from_is_err_and c.from_residual-in_err-text.result c.from_residual-in_err-text.ensures.1 in
    let a = c.in_ok-doc.ensures.plan in
    rw (p.1, p.2) (c.in_err-text.ensures.stop c.args.input.now a.0)

pub returns-clause-text : goal.returns-clause-text
returns-clause-text c =
    let plan = c.in_ok-doc.plan in
    let a = c.in_ok-doc.ensures.plan in
    let name = c.args.name.now in
    let text = c.in_ok-text.text.items in
    of_plan (Need name) (a_scenario name) plan text a.0 refl (subst (λ (d : Doc). PlanText d plan (a_scenario name) text) (sym a.1) c.in_ok-text.ensures.text)
