use Rattle.std.proofs.Common.{rules}
use Rattle.std.proofs.lemmas.Result.{err_from_is_err_and}
use Rattle.dia_exprs.proofs.AllTokens.{none-spelled, read-spelled, left-over}
use Rattle.dia_exprs.proofs.parse.nodes.Goals as goal

pub returns-in_err-rest-clause-none : goal.returns-in_err-rest-clause-none
returns-in_err-rest-clause-none c =
    let p = err_from_is_err_and c.from_residual-in_err-rest.result c.from_residual-in_err-rest.ensures.1 in
    rw (p.1, p.2) (none-spelled c.args.tokens.now c.in_err-rest.field-0.0 c.in_err-rest.ensures.none)

pub returns-then-is_empty-clause-found : goal.returns-then-is_empty-clause-found
returns-then-is_empty-clause-found c = read-spelled c.in_ok-nodes.nodes c.whole.new.out c.args.tokens.now c.in_ok-rest.rest.now c.in_ok-nodes.ensures (search rules) c.in_ok-rest.ensures.found

pub returns-else-is_empty-clause-none : goal.returns-else-is_empty-clause-none
returns-else-is_empty-clause-none c same = left-over c.in_ok-nodes.nodes c.whole.new.out c.args.tokens.now c.in_ok-rest.rest.now (search rules) c.in_ok-rest.ensures.found
