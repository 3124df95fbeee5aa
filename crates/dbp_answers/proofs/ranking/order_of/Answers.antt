use Rattle.std.proofs.lemmas.Result.{err_from_is_err_and}
use Rattle.dbp_answers.proofs.RankStops.{no-order-stop, no-shape-stop}
use Rattle.dbp_answers.proofs.ranking.order_of.Goals as goal

pub returns-in_err-shaped-clause-stop : goal.returns-in_err-shaped-clause-stop
returns-in_err-shaped-clause-stop c =
    let p = err_from_is_err_and c.from_residual.result c.from_residual.ensures.1 in
    rw (p.1, p.2) (λ input spelled. no-shape-stop input c.args.doc.now c.in_err-shaped.field-0.0 spelled c.in_err-shaped.ensures.fault)

pub returns-in_err-find-clause-stop : goal.returns-in_err-find-clause-stop
returns-in_err-find-clause-stop c =
    let p = err_from_is_err_and c.from_residual-in_err-find.result c.from_residual-in_err-find.ensures.1 in
    rw (p.1, p.2) (λ input spelled. no-order-stop input c.args.doc.now c.in_ok-shaped.shaped c.in_err-find.field-0.0 spelled c.in_ok-shaped.ensures.found c.in_err-find.ensures.fail)
