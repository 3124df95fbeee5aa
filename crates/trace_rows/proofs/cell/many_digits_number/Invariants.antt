use Rattle.trace_rows.proofs.CellNumbers.{DigitsFrom}
use Rattle.trace_rows.proofs.cell.many_digits_number.Given as goal

abbrev pub invariant-loop-byte : goal.invariant-loop-byte
invariant-loop-byte l = DigitsFrom l.digits l.byte-index l.number
