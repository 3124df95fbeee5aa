use Rattle.std.proofs.Common.{Err, ap}
use Rattle.std.proofs.lemmas.Result.{err_from_is_err_and}
use Rattle.dia_lines.proofs.Reading.{expression-error}
use Rattle.dia_lines.proofs.statement.spelled.Goals as goal

pub returns-in_err-expression-clause-fault : goal.returns-in_err-expression-clause-fault
returns-in_err-expression-clause-fault c =
    let p = err_from_is_err_and c.from_residual.result c.from_residual.ensures.1 in
    rw (p.1, p.2) (expression-error c.args.tokens.now c.in_err-expression.field-0.0 (λ none. c.in_err-expression.ensures.none (ap (λ e. Err e) none)))
