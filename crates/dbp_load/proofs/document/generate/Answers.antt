use Rattle.std.proofs.Common.{◌≡◌, ◌≤◌, ap, length, sym, ◌∙◌, subst}
use Rattle.std.proofs.lemmas.Result.{IfOk-weaker}
use Rattle.dbp_plan.specs.declared.limits.TheConstants.{MAX_TEXT}
use Rattle.dbp_plan.specs.declared.plan.Plan.{Plan}
use Rattle.dia_read.specs.Canonical.{canonical_text}
use Rattle.trace_io.specs.Texts.{Accepts}
use Rattle.dbp_load.proofs.GeneratedBodies.{printable}
use Rattle.dbp_load.proofs.TextLengths.{text-fits}
use Rattle.dbp_load.proofs.document.generate.Goals as goal

pub print_doc-requires : goal.print_doc-requires
print_doc-requires c = rw c.in_ok-body.ensures (printable c.args.seed c.args.size c.requires.0 c.requires.1)

pub returns-clause-accepted : goal.returns-clause-accepted
returns-clause-accepted c =
    let found = c.generated_documents_are_accepted.ensures c.args.seed c.args.size c.ranges.seed.fits c.requires.0 c.requires.1 in
    IfOk-weaker c.print_doc.result (λ text. text.items ≡ canonical_text c.in_ok-body.body) (λ text. (plan : Plan) × Accepts text.items plan)
    (λ text is. (found.0, subst (λ t. Accepts t found.0) (sym (is ∙ ap canonical_text c.in_ok-body.ensures)) found.1))
    c.print_doc.ensures.text

pub returns-clause-fits : goal.returns-clause-fits
returns-clause-fits c =
    IfOk-weaker c.print_doc.result (λ text. text.items ≡ canonical_text c.in_ok-body.body) (λ text. length text.items ≤ MAX_TEXT)
    (λ text is. subst (λ t. length t ≤ MAX_TEXT) (sym (is ∙ ap canonical_text c.in_ok-body.ensures)) (text-fits c.args.seed c.args.size c.requires.0 c.requires.1))
    c.print_doc.ensures.text
