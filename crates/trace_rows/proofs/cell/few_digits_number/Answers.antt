use Rattle.std.proofs.Common.{◌≡◌, None, refl, arith, rules}
use Rattle.trace_rows.proofs.CellNumbers.{digits-all, digits-later, digits-other, few-fit, tenfold}
use Rattle.trace_rows.proofs.cell.few_digits_number.Goals as goal

pub overflow_mul-number : goal.overflow_mul-number
overflow_mul-number c =
    let small = few-fit c.loop-byte.byte-index c.loop-byte.number (omega (arith, c.loop-byte-test.true, c.requires)) c.loop-byte.invariant.below in
    omega (arith, small)

pub overflow_add-number : goal.overflow_add-number
overflow_add-number c =
    let small = few-fit c.loop-byte.byte-index c.loop-byte.number (omega (arith, c.loop-byte-test.true, c.requires)) c.loop-byte.invariant.below in
    omega (arith, small, c.in_ok-number.ensures.small)

pub loop-byte-init : goal.loop-byte-init
loop-byte-init c = record { from = (refl, refl); below = omega arith }

pub returns-in_err-number : goal.returns-in_err-number
returns-in_err-number c =
    let none : c.from_residual.result ≡ None = search rules in
    rw none (digits-other c.args.digits.now c.loop-byte.byte-index c.loop-byte.number c.loop-byte-test.true c.in_err-number.ensures.value c.loop-byte.invariant.from)

pub loop-byte-preserved : goal.loop-byte-preserved
loop-byte-preserved c = record {
  from = rw c.in_ok-number.ensures.value.1 (digits-later c.args.digits.now c.loop-byte.byte-index c.loop-byte.number c.loop-byte-test.true c.in_ok-number.ensures.value.0 c.loop-byte.invariant.from);
  below = tenfold c.loop-byte.byte-index c.loop-byte.number c.in_ok-number.field-0 c.loop-byte.invariant.below c.in_ok-number.ensures.small;
}

pub returns : goal.returns
returns c = digits-all c.args.digits.now c.loop-byte.byte-index c.loop-byte.number (omega arith) c.loop-byte.invariant.from
