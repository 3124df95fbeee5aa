use Rattle.std.proofs.Common.{◌≡◌, None, arith, rules}
use Rattle.std.proofs.lemmas.Int.{ints}
use Rattle.trace_rows.proofs.CellNumbers.{no-positive, positive-is}
use Rattle.trace_rows.proofs.cell.positive.Goals as goal

pub returns-in_err-digits_number : goal.returns-in_err-digits_number
returns-in_err-digits_number c =
    let none : c.from_residual.result ≡ None = search rules in
    rw none (no-positive c.args.digits.now c.in_err-digits_number.ensures)

pub returns : goal.returns
returns c =
    positive-is c.args.digits.now c.in_ok-digits_number.field-0 _ c.checked_add_unsigned.result c.in_ok-digits_number.ensures.0 c.in_ok-digits_number.ensures.1 (omega (arith, ints)) c.checked_add_unsigned.ensures
