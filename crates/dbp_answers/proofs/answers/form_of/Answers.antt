use Rattle.std.proofs.Common.{ℕ, List, refl, sym, subst}
use Rattle.std.proofs.lemmas.Result.{err_from_is_err_and}
use Rattle.dia_read.specs.Canonical.{canonical_text}
use Rattle.dbp_answers.specs.Answer.{Makes, of_body}
use Rattle.dbp_answers.specs.declared.command.Command.TheVariants.{Form}
use Rattle.dbp_answers.proofs.StopLaws.{text-stop}
use Rattle.dbp_answers.proofs.answers.form_of.Goals as goal

pub returns-in_err-doc-clause-stop : goal.returns-in_err-doc-clause-stop
returns-in_err-doc-clause-stop c =
    let p = err_from_is_err_and c.from_residual.result c.from_residual.ensures.1 in
    rw (p.1, p.2) (text-stop c.args.input.now Form (λ body. canonical_text body) c.in_err-doc.field-0.0 refl c.in_err-doc.ensures.fault)

pub returns-clause-text : goal.returns-clause-text
returns-clause-text c =
    subst (λ (text : List ℕ). Makes c.args.input.now Form text) (sym c.in_ok-print_doc.ensures.text) (of_body Form (λ body. canonical_text body) c.in_ok-doc.doc refl c.in_ok-doc.ensures.found)
