use Rattle.std.proofs.Common.{◌≡◌, None, Some, refl, sym, ◌∙◌, rules}
use Rattle.std.proofs.lemmas.Option.{none-some}
use Rattle.dia_check.specs.declared.fail.CheckCode.TheVariants.{NoOut}
use Rattle.dia_check.specs.declared.fail.CheckFail.TheVariants.{Refused}
use Rattle.dia_check.proofs.NoOuts.{task-refused}
use Rattle.dia_check.proofs.Refusals.{exactly, line-refused, none-found}
use Rattle.dia_check.proofs.shaping.shape.Goals as goal

pub returns-in-Some-clause-fault : goal.returns-in-Some-clause-fault
returns-in-Some-clause-fault c =
    let found : c.first_line_fault.result ≡ Some c.in-Some.fault = search rules in
    rw c.line_refusal.ensures (line-refused c.args.doc.now c.in-Some.fault (sym c.first_line_fault.ensures ∙ found))

pub returns-in-Some-clause-line_refused : goal.returns-in-Some-clause-line_refused
returns-in-Some-clause-line_refused c =
    let found : c.first_line_fault.result ≡ Some c.in-Some.fault = search rules in
    exactly _ _ _ c.in-Some.fault c.line_refusal.result (sym c.first_line_fault.ensures ∙ found) c.line_refusal.ensures

pub returns-in-Some-clause-task_refused : goal.returns-in-Some-clause-task_refused
returns-in-Some-clause-task_refused c =
    let found : c.first_line_fault.result ≡ Some c.in-Some.fault = search rules in
    λ none. absurd (none-some c.in-Some.fault (sym none ∙ sym c.first_line_fault.ensures ∙ found))

pub returns-in-Some-line_without_out-clause-fault :
    goal.returns-in-Some-line_without_out-clause-fault
returns-in-Some-line_without_out-clause-fault c =
    let none : c.first_line_fault.result ≡ None = search rules in
    let found : c.line_without_out.result ≡ Some c.in-Some-line_without_out.line = search rules in
    task-refused c.args.doc.now c.in-Some-line_without_out.line (sym c.first_line_fault.ensures ∙ none) (sym c.line_without_out.ensures ∙ found)

pub returns-in-Some-line_without_out-clause-line_refused :
    goal.returns-in-Some-line_without_out-clause-line_refused
returns-in-Some-line_without_out-clause-line_refused c =
    let none : c.first_line_fault.result ≡ None = search rules in
    none-found _ _ (sym c.first_line_fault.ensures ∙ none)

pub returns-in-Some-line_without_out-clause-task_refused :
    goal.returns-in-Some-line_without_out-clause-task_refused
returns-in-Some-line_without_out-clause-task_refused c =
    let found : c.line_without_out.result ≡ Some c.in-Some-line_without_out.line = search rules in
    λ none. exactly _ (λ line. Refused line NoOut) _ c.in-Some-line_without_out.line _ (sym c.line_without_out.ensures ∙ found) refl

pub shaped_of-requires-clause-faultless : goal.shaped_of-requires-clause-faultless
shaped_of-requires-clause-faultless c =
    let none : c.first_line_fault.result ≡ None = search rules in
    sym c.first_line_fault.ensures ∙ none

pub returns-clause-line_refused : goal.returns-clause-line_refused
returns-clause-line_refused c =
    let none : c.first_line_fault.result ≡ None = search rules in
    none-found _ _ (sym c.first_line_fault.ensures ∙ none)

pub returns-clause-task_refused : goal.returns-clause-task_refused
returns-clause-task_refused c =
    let none : c.line_without_out.result ≡ None = search rules in
    λ _. none-found _ _ (sym c.line_without_out.ensures ∙ none)
