use Rattle.std.proofs.Common.{ℕ, List, refl, subst}
use Rattle.dia_read.specs.Canonical.{SpellsBody, canonical_text}
use Rattle.dia_read.specs.Documents.{upgraded}
use Rattle.dia_read.specs.declared.document.Body.{Body}
use Rattle.dbp_answers.specs.declared.command.Command.TheVariants.{Form, Upgrade}
use Rattle.dbp_answers.proofs.PrintedTexts.{written-again, written-of-body}
use Rattle.dbp_answers.proofs.laws.a_printed_text_is_printed_again.Goals as goal

pub returns-clause-form : goal.returns-clause-form
returns-clause-form c = λ input text written.
    let form : Body → List ℕ = λ body. canonical_text body in
    let is = written-of-body input text Form form refl written in
    let printable = c.a_document_can_be_printed.ensures input is.doc is.spelled in
    written-again text is.doc.body Form form refl (subst (λ (l : List ℕ). SpellsBody l is.doc.body) is.same (c.canonical_text_spells.ensures is.doc.body printable)) is.same

pub returns-clause-upgrade : goal.returns-clause-upgrade
returns-clause-upgrade c = λ input text written.
    let upgrade : Body → List ℕ = λ body. canonical_text (upgraded body) in
    let is = written-of-body input text Upgrade upgrade refl written in
    let body : Body = upgraded is.doc.body in
    let printable = c.an_upgraded_body_can_be_printed.ensures is.doc.body (c.a_document_can_be_printed.ensures input is.doc is.spelled) in
    let spells : SpellsBody text body = subst (λ (l : List ℕ). SpellsBody l body) is.same (c.canonical_text_spells.ensures body printable) in
    (written-again text body Upgrade upgrade refl spells is.same, written-again text body Form (λ b. canonical_text b) refl spells is.same)
