use Rattle.std.proofs.Common.{◌≡◌, None, refl, arith, rules}
use Rattle.trace_rows.proofs.CellNumbers.{digits-all, digits-later, digits-many, digits-other, other-wide}
use Rattle.trace_rows.proofs.cell.many_digits_number.Goals as goal

pub loop-byte-init : goal.loop-byte-init
loop-byte-init c = (refl, refl)

pub returns-then-number-gt-MAX_TENTH : goal.returns-then-number-gt-MAX_TENTH
returns-then-number-gt-MAX_TENTH c =
    digits-many c.args.digits.now c.loop-byte.byte-index c.loop-byte.number c.loop-byte-test.true c.if-number-gt-MAX_TENTH.true c.loop-byte.invariant

pub returns-in_err-number : goal.returns-in_err-number
returns-in_err-number c =
    let none : c.from_residual.result ≡ None = search rules in
    rw none (other-wide c.args.digits.now (digits-other c.args.digits.now c.loop-byte.byte-index c.loop-byte.number c.loop-byte-test.true c.in_err-number.ensures.value c.loop-byte.invariant))

pub loop-byte-preserved : goal.loop-byte-preserved
loop-byte-preserved c =
    rw c.in_ok-number.ensures.value.1 (digits-later c.args.digits.now c.loop-byte.byte-index c.loop-byte.number c.loop-byte-test.true c.in_ok-number.ensures.value.0 c.loop-byte.invariant)

pub returns : goal.returns
returns c = digits-all c.args.digits.now c.loop-byte.byte-index c.loop-byte.number (omega arith) c.loop-byte.invariant
