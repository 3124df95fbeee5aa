use Rattle.std.proofs.Common.{◌≡◌, [], None, Some, sym, ◌∙◌, rules}
use Rattle.dia_check.specs.Faults.{decl_fault, task_faults}
use Rattle.dbp_plan.specs.FirstFault.{faults_after}
use Rattle.dbp_plan.proofs.FirstFaults.{first-append, first-front}
use Rattle.dia_check.proofs.first_line.first_line_fault.Goals as goal

pub returns-in-Some : goal.returns-in-Some
returns-in-Some c =
    let doc = c.args.doc.now in
    let decls = c.items.ensures.value in
    let lines = c.items-2.ensures.value in
    let fault : c.decls_fault.result ≡ Some c.in-Some.fault = search rules in
    sym (first-front (faults_after decl_fault [] doc.body.decls doc.lines.decls) (task_faults doc.body [] doc.body.tasks doc.lines.tasks doc.lines.parts) c.in-Some.fault (sym (rw (decls, lines) at c.decls_fault.ensures) ∙ fault))

pub returns : goal.returns
returns c =
    let doc = c.args.doc.now in
    let decls = c.items.ensures.value in
    let lines = c.items-2.ensures.value in
    let none : c.decls_fault.result ≡ None = search rules in
    c.tasks_fault.ensures ∙ sym (first-append (faults_after decl_fault [] doc.body.decls doc.lines.decls) (task_faults doc.body [] doc.body.tasks doc.lines.tasks doc.lines.parts) (sym (rw (decls, lines) at c.decls_fault.ensures) ∙ none))
