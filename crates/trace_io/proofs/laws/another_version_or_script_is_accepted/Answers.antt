use Rattle.std.proofs.Common.{◌≡◌, refl, sym, ap, subst, ◌∙◌}
use Rattle.dia_read.specs.declared.document.Body.{Body}
use Rattle.dia_check.specs.Checks.{IsCheckedOf}
use Rattle.dia_check.specs.SameTasks.{HaveSameTasks}
use Rattle.dia_check.proofs.SameTasks.{checked-end, with_end}
use Rattle.trace_io.proofs.laws.another_version_or_script_is_accepted.Goals as goal

pub returns : goal.returns
returns c text other plan accepted doc spells same =
    let first = accepted.doc in
    let d = accepted.diagram in
    let items = c.each_item_has_a_line.ensures text first accepted.spelled in
    let printable = c.a_document_can_be_printed.ensures text first accepted.spelled in
    let tasks : HaveSameTasks first.body doc.body = record {
      policy = sym (ap (λ (body : Body). body.policy) same);
      decls = sym (ap (λ (body : Body). body.decls) same);
      tasks = sym (ap (λ (body : Body). body.tasks) same);
    } in
    let end : doc.body.until ≡ d.until = ap (λ (body : Body). body.until) same ∙ sym (checked-end first d accepted.checked) in (
      record {
        doc = doc;
        diagram = d;
        spelled = spells;
        checked = subst (λ until. IsCheckedOf doc (with_end until d)) end (c.tasks_decide_the_diagram.ensures first doc d tasks items (c.each_item_has_a_line.ensures other doc spells) accepted.checked);
        planned = c.other_lines_keep_the_plan.ensures first doc d plan (ap (λ (body : Body). body.trace) same) printable.trace items accepted.planned;
      },
      refl,
    )
