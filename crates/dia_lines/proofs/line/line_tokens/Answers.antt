use Rattle.std.proofs.Common.{◌≡◌}
use Rattle.std.proofs.lemmas.Result.{err_from_is_err_and}
use Rattle.dia_tokens.specs.declared.line.LineFail.TheVariants.{BadByte, BadToken}
use Rattle.dia_lines.proofs.Reading.{text-error, byte-error, token-error}
use Rattle.dia_lines.proofs.line.line_tokens.Goals as goal

pub returns-in_err-tokens_into-clause-fault : goal.returns-in_err-tokens_into-clause-fault
returns-in_err-tokens_into-clause-fault c =
    let p = err_from_is_err_and c.from_residual.result c.from_residual.ensures.1 in
    rw (p.1, p.2) (text-error c.args.line.now c.in_err-tokens_into.field-0.0 c.in_err-tokens_into.ensures.fault)

pub returns-in_err-tokens_into-clause-bad_byte : goal.returns-in_err-tokens_into-clause-bad_byte
returns-in_err-tokens_into-clause-bad_byte c bad =
    let p = err_from_is_err_and c.from_residual.result c.from_residual.ensures.1 in
    let same = c.in_err-tokens_into.ensures.bad_byte bad in
    let is : c.in_err-tokens_into.field-0.0 ≡ BadByte = cc in
    byte-error c.from_residual.result c.in_err-tokens_into.field-0.0 p.0 p.1 p.2 is

pub returns-in_err-tokens_into-clause-bad_token : goal.returns-in_err-tokens_into-clause-bad_token
returns-in_err-tokens_into-clause-bad_token c bad =
    let p = err_from_is_err_and c.from_residual.result c.from_residual.ensures.1 in
    let same = c.in_err-tokens_into.ensures.bad_token bad in
    let is : c.in_err-tokens_into.field-0.0 ≡ BadToken = cc in
    token-error c.from_residual.result c.in_err-tokens_into.field-0.0 p.0 p.1 p.2 is
