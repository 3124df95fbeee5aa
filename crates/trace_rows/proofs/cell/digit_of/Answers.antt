use Rattle.std.proofs.Common.{◌∙◌, sym, arith}
use Rattle.dia_tokens.proofs.ByteLaws.{digit-bounds}
use Rattle.trace_rows.proofs.cell.digit_of.Goals as goal

pub overflow_sub-byte : goal.overflow_sub-byte
overflow_sub-byte c = let bounds = digit-bounds c.args.byte (sym c.is_digit.ensures ∙ c.if-is_digit.true) in omega (arith, bounds.0)

pub returns-then-is_digit-clause-small : goal.returns-then-is_digit-clause-small
returns-then-is_digit-clause-small c = let bounds = digit-bounds c.args.byte (sym c.is_digit.ensures ∙ c.if-is_digit.true) in omega (arith, bounds.1, c.from.ensures)
