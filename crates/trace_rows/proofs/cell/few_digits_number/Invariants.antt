use Rattle.std.proofs.Common.{◌<◌, ◌^◌}
use Rattle.trace_rows.proofs.CellNumbers.{DigitsFrom}
use Rattle.trace_rows.proofs.cell.few_digits_number.Given as goal

abbrev pub invariant-loop-byte : goal.invariant-loop-byte
invariant-loop-byte l = record {
  from : DigitsFrom l.digits l.byte-index l.number;
  below : l.number < 10 ^ l.byte-index;
}
