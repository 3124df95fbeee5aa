use Rattle.std.proofs.Common.{arith}
use Rattle.std.proofs.lemmas.Bool.Decides.{nat_tests}
use Rattle.dia_tokens.specs.Kinds.{kind_of, symbol_kind_of}
use Rattle.trace_rows.proofs.cell.is_digit.Goals as goal

pub returns : goal.returns
unfolding kind_of symbol_kind_of
returns c = let value = c.is_ascii_digit.ensures.value in grind (arith, nat_tests)
