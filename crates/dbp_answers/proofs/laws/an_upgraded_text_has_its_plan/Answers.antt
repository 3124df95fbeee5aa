use Rattle.std.proofs.Common.{◌≡◌, ℕ, List, refl, ap, subst, ◌∙◌}
use Rattle.dia_read.specs.Canonical.{canonical_text}
use Rattle.dia_read.specs.Documents.{upgraded}
use Rattle.dia_read.specs.declared.document.Body.{Body}
use Rattle.dia_read.specs.declared.document.Doc.{Doc}
use Rattle.dia_read.proofs.DocumentLaws.{one-document}
use Rattle.trace_io.specs.Texts.{Accepts}
use Rattle.dbp_answers.specs.declared.command.Command.TheVariants.{Upgrade}
use Rattle.dbp_answers.proofs.PrintedTexts.{written-of-body}
use Rattle.dbp_answers.proofs.laws.an_upgraded_text_has_its_plan.Goals as goal

pub returns : goal.returns
returns c = λ input text plan accepted written.
    let upgrade : Body → List ℕ = λ body. canonical_text (upgraded body) in
    let is = written-of-body input text Upgrade upgrade refl written in
    let doc : accepted.doc ≡ is.doc = one-document input accepted.doc is.doc accepted.spelled is.spelled in
    subst (λ (l : List ℕ). Accepts l plan) (ap (λ (d : Doc). upgrade d.body) doc ∙ is.same) (c.an_upgraded_text_is_accepted.ensures input plan accepted)
