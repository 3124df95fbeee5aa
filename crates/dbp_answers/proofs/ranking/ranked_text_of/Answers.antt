use Rattle.std.proofs.Common.{◌≡◌, ℕ, List, refl, sym, ap, subst, ◌∙◌}
use Rattle.std.proofs.lemmas.Result.{err_from_is_err_and}
use Rattle.dia_read.specs.Canonical.{canonical_text}
use Rattle.dia_read.specs.declared.document.Body.{Body}
use Rattle.rank_find.specs.Bodies.{ranked_body}
use Rattle.dbp_answers.specs.Answer.{Makes, of_shape}
use Rattle.dbp_answers.specs.declared.command.Command.TheVariants.{Rank}
use Rattle.dbp_answers.proofs.RankStops.{not-read-stop}
use Rattle.dbp_answers.proofs.RankedTexts.{ranked-text}
use Rattle.dbp_answers.proofs.ranking.ranked_text_of.Goals as goal

pub returns-in_err-doc-clause-stop : goal.returns-in_err-doc-clause-stop
returns-in_err-doc-clause-stop c =
    let p = err_from_is_err_and c.from_residual.result c.from_residual.ensures.1 in
    rw (p.1, p.2) (not-read-stop c.args.input.now c.in_err-doc.field-0.0 c.in_err-doc.ensures.fault)

pub returns-clause-text : goal.returns-clause-text
returns-clause-text c =
    let input = c.args.input.now in
    let doc = c.in_ok-doc.doc in
    let order = c.in_ok-order.order in
    let made = c.in_ok-body.ensures.plan in
    let text : List ℕ = canonical_text (ranked_body doc.body order) in
    let same : c.in_ok-print_doc.field-0.items ≡ text = c.in_ok-print_doc.ensures.text ∙ ap (λ (b : Body). canonical_text b) c.in_ok-body.ensures.body in
    subst (λ (l : List ℕ). Makes input Rank l) (sym same)
    (of_shape Rank text refl
    (ranked-text c.bare_bodies_decide_shapes.ensures.diagram c.canonical_text_spells.ensures input doc order c.in_ok-doc.ensures.found c.in_ok-order.ensures.order made.0 made.1 made.2 made.3))
