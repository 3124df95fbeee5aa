use Rattle.std.proofs.Common.{◌≡◌, ℕ, List, Option, None, sym, ap, subst, ◌∙◌}
use Rattle.dia_read.specs.declared.document.Body.{Body}
use Rattle.dia_read.specs.Canonical.{canonical_text}
use Rattle.dbp_answers.specs.Answer.{PlanText, scenario_text}
use Rattle.dbp_answers.specs.Commands.{a_scenario}
use Rattle.dbp_answers.specs.ScenarioCodes.{code_of_task}
use Rattle.dbp_answers.specs.Stops.{IsStopOf, stop_of_code}
use Rattle.dbp_answers.specs.declared.command.Command.TheVariants.{Need}
use Rattle.dbp_answers.specs.declared.command_code.CommandCode.{CommandCode}
use Rattle.dbp_answers.specs.declared.command_code.CommandCode.TheVariants.{NoTask}
use Rattle.dbp_answers.proofs.ScenarioLaws.{failure-stop, refused-for}
use Rattle.dbp_answers.proofs.scenarios.scenario_text.Goals as goal

pub returns-in_default-clause-stop : goal.returns-in_default-clause-stop
returns-in_default-clause-stop c =
    let d = c.args.plan.now.diagram in
    let name = c.args.name.now in
    let not = c.in_default.not-Some in
    let none : c.task_named.result ≡ None = cc in
    λ input accepted.
    subst (IsStopOf input (Need name)) (sym c.stop_of.ensures)
    (refused-for input c.args.plan.now accepted name NoTask (ap (code_of_task d) (sym c.task_named.ensures ∙ none)))

pub returns-in-Ok-clause-text : goal.returns-in-Ok-clause-text
returns-in-Ok-clause-text c =
    let text = c.in_ok-print_doc-in-Ok.field-0.items in
    let d = c.args.plan.now.diagram in
    let name = c.args.name.now in
    let task = c.in-Some.task in
    subst (λ (t : List ℕ). PlanText c.args.doc c.args.plan.now (a_scenario name) t) (sym (c.in_ok-print_doc-in-Ok.ensures.text ∙ ap (λ (b : Body). canonical_text b) c.in-Ok.ensures.body))
    (scenario_text name task (sym c.in-Some.ensures) c.in-Ok.ensures.fit)

pub returns-clause-stop : goal.returns-clause-stop
returns-clause-stop c =
    let p = c.args.plan.now in
    let name = c.args.name.now in
    λ input accepted.
    let told = failure-stop input p accepted name c.in-Some.task c.in-Err.fail (sym c.in-Some.ensures) c.in-Err.ensures.fault in
    subst (IsStopOf input (Need name)) (sym (c.stop_of-in-Err.ensures ∙ ap (λ (code : Option CommandCode). stop_of_code code) c.fault_code.ensures)) told
