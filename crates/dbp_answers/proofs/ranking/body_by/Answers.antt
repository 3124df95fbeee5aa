use Rattle.std.proofs.Common.{sym, subst}
use Rattle.std.proofs.lemmas.Result.{err_from_is_err_and}
use Rattle.dia_check.specs.Checks.{IsCheckedOf}
use Rattle.dia_read.specs.Printable.{HasItemLines}
use Rattle.dia_read.specs.declared.document.Body.{Body}
use Rattle.rank_find.proofs.RankedShapes.{still-items}
use Rattle.trace_io.specs.Traces.{IsPlanOf, IsTraceRefusal}
use Rattle.dbp_answers.specs.Rankings.{HasNoCheckFault}
use Rattle.dbp_answers.proofs.RankStops.{no-trace-stop}
use Rattle.dbp_answers.proofs.RankedTexts.{each-once, no-check-fault}
use Rattle.dbp_answers.proofs.ranking.body_by.Goals as goal

pub ranked_body-requires : goal.ranked_body-requires
ranked_body-requires c = each-once c.args.doc c.args.order.now c.requires.order

pub diagram_of-requires-clause-lines : goal.diagram_of-requires-clause-lines
diagram_of-requires-clause-lines c =
    subst (λ (b : Body). HasItemLines (record { body = b; lines = c.args.doc.lines })) (sym c.ranked_body.ensures.body) (still-items c.args.doc c.args.order.now c.requires.lines)

pub diagram_of-requires-clause-faultless : goal.diagram_of-requires-clause-faultless
diagram_of-requires-clause-faultless c =
    subst (λ (b : Body). HasNoCheckFault (record { body = b; lines = c.args.doc.lines })) (sym c.ranked_body.ensures.body)
    (no-check-fault c.bare_bodies_decide_shapes.ensures.diagram c.args.doc c.args.order.now c.requires.printable c.requires.lines c.requires.order)

pub read_trace-requires-clause-lines : goal.read_trace-requires-clause-lines
read_trace-requires-clause-lines c =
    subst (λ (b : Body). HasItemLines (record { body = b; lines = c.args.doc.lines })) (sym c.ranked_body.ensures.body) (still-items c.args.doc c.args.order.now c.requires.lines)

pub returns-in_err-read_trace-clause-stop : goal.returns-in_err-read_trace-clause-stop
returns-in_err-read_trace-clause-stop c =
    let p = err_from_is_err_and c.from_residual-in_err-read_trace.result c.from_residual-in_err-read_trace.ensures.1 in
    let d = c.in_ok-diagram.diagram in
    let lines = c.args.doc.lines in
    let fail = c.in_err-read_trace.field-0.0 in
    rw (p.1, p.2)
    (λ input spelled.
    no-trace-stop c.bare_bodies_decide_shapes.ensures.diagram input c.args.doc c.args.order.now c.requires.order d fail
    (subst (λ (b : Body). IsCheckedOf (record { body = b; lines = lines }) d) c.ranked_body.ensures.body c.in_ok-diagram.ensures.checked)
    (subst (λ (b : Body). IsTraceRefusal (record { body = b; lines = lines }) d fail) c.ranked_body.ensures.body c.in_err-read_trace.ensures.fault)
    spelled)

pub returns-clause-plan : goal.returns-clause-plan
returns-clause-plan c =
    let d = c.in_ok-diagram.diagram in
    let lines = c.args.doc.lines in
    let plan = c.in_ok-read_trace.field-0 in (
      d,
      plan,
      subst (λ (b : Body). IsCheckedOf (record { body = b; lines = lines }) d) c.ranked_body.ensures.body c.in_ok-diagram.ensures.checked,
      subst (λ (b : Body). IsPlanOf (record { body = b; lines = lines }) d plan) c.ranked_body.ensures.body c.in_ok-read_trace.ensures.plan,
    )
