use Rattle.std.proofs.Common.{◌≡◌, List, ℕ, Some, refl, sym, ap, ◌∙◌, subst}
use Rattle.dbp_rules.specs.Wired.{wiring_of}
use Rattle.dbp_rules.specs.declared.step.Count.{Count}
use Rattle.dbp_replay.specs.Names.{HasNames}
use Rattle.dbp_replay.specs.Replays.{first, heard_lines}
use Rattle.dbp_replay.specs.Scripts.{IsScript}
use Rattle.dbp_replay.specs.Texts.{script_text}
use Rattle.dbp_replay.proofs.AllowedSteps.{all_slot_numbers}
use Rattle.dbp_replay.proofs.CheckedNames.{checked-names}
use Rattle.dbp_replay.proofs.PrintedScripts.{script-again}
use Rattle.dia_read.specs.Documents.{with_rest}
use Rattle.dbp_answers.specs.Answer.{heard_steps, made, of_plan}
use Rattle.dbp_answers.specs.Commands.{a_replay, count_of}
use Rattle.dbp_answers.specs.Simulations.{steps_by_rank}
use Rattle.dbp_answers.specs.declared.command.Command.TheVariants.{Replay}
use Rattle.dbp_answers.proofs.Simulated.{record-leads-in, recorded-there}
use Rattle.dbp_answers.proofs.laws.a_recorded_script_is_replayed.Goals as goal

pub returns : goal.returns
returns c = λ processors input other plan steps accepted doc is spells same.
    let printable = c.a_document_can_be_printed.ensures input accepted.doc accepted.spelled in
    let lines = c.each_item_has_a_line.ensures input accepted.doc accepted.spelled in
    let kept : doc.body.script ≡ Some (script_text plan.diagram steps) = ap (λ body. body.script) same in
    let but_script : doc.body ≡ with_rest doc.body.version doc.body.script accepted.doc.body = same ∙ sym (ap (λ script. with_rest doc.body.version script accepted.doc.body) kept) in
    let again = c.another_version_or_script_is_accepted.ensures input other plan accepted doc spells but_script in
    let count : Count = count_of (steps_by_rank processors) in
    let leads = record-leads-in plan processors steps is in
    let names : HasNames plan.diagram = subst HasNames (sym accepted.planned.diagram) (checked-names accepted.doc accepted.diagram printable lines accepted.checked) in
    let script : IsScript plan.diagram again.0.doc steps =
    script-again plan.diagram again.0.doc steps names (recorded-there plan processors steps is) (all_slot_numbers plan count steps leads.0 leads.1) (ap (λ d. d.body.script) again.1 ∙ kept) in
    let text : List ℕ = heard_lines plan (wiring_of plan count) (first plan count) steps in
    (text, made text (of_plan (Replay (steps_by_rank processors)) (a_replay count) plan text again.0 refl (heard_steps count steps text script (record { state = leads.0; leads = leads.1; told = refl }))))
