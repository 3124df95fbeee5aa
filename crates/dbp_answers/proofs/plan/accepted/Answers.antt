use Rattle.std.proofs.Common.{refl}
use Rattle.std.proofs.lemmas.Result.{err_from_is_err_and}
use Rattle.dbp_answers.proofs.StopLaws.{reading-stop, shape-stop, rank-stop, trace-stop}
use Rattle.dbp_answers.proofs.plan.accepted.Goals as goal

pub returns-in_err-doc-clause-fault : goal.returns-in_err-doc-clause-fault
returns-in_err-doc-clause-fault c =
    let p = err_from_is_err_and c.from_residual.result c.from_residual.ensures.1 in
    rw (p.1, p.2) (reading-stop c.args.input.now c.in_err-doc.field-0.0 c.in_err-doc.ensures.fault)

pub returns-in_err-shaped-clause-fault : goal.returns-in_err-shaped-clause-fault
returns-in_err-shaped-clause-fault c =
    let p = err_from_is_err_and c.from_residual-in_err-shaped.result c.from_residual-in_err-shaped.ensures.1 in
    rw (p.1, p.2) (shape-stop c.args.input.now c.in_ok-doc.doc c.in_err-shaped.field-0.0 c.in_ok-doc.ensures.found c.in_err-shaped.ensures.fault)

pub returns-in_err-diagram-clause-fault : goal.returns-in_err-diagram-clause-fault
returns-in_err-diagram-clause-fault c =
    let p = err_from_is_err_and c.from_residual-in_err-diagram.result c.from_residual-in_err-diagram.ensures.1 in
    rw (p.1, p.2) (rank-stop c.args.input.now c.in_ok-doc.doc c.in_ok-shaped.shaped c.in_err-diagram.field-0.0 c.in_ok-doc.ensures.found c.in_ok-shaped.ensures.found c.in_err-diagram.ensures.fault)

pub returns-in_err-plan-clause-fault : goal.returns-in_err-plan-clause-fault
returns-in_err-plan-clause-fault c =
    let p = err_from_is_err_and c.from_residual-in_err-plan.result c.from_residual-in_err-plan.ensures.1 in
    rw (p.1, p.2) (trace-stop c.args.input.now c.in_ok-doc.doc c.in_ok-diagram.diagram c.in_err-plan.field-0.0 c.in_ok-doc.ensures.found (c.in_ok-diagram.ensures.checked c.in_ok-doc.doc c.in_ok-shaped.ensures.found) c.in_err-plan.ensures.fault)

pub returns-clause-plan : goal.returns-clause-plan
returns-clause-plan c = (
  record {
    doc = c.in_ok-doc.doc;
    diagram = c.in_ok-diagram.diagram;
    spelled = c.in_ok-doc.ensures.found;
    checked = c.in_ok-diagram.ensures.checked c.in_ok-doc.doc c.in_ok-shaped.ensures.found;
    planned = c.in_ok-plan.ensures.plan;
  },
  refl,
)
