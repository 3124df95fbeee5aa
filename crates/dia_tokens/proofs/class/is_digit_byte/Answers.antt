use Rattle.std.proofs.Common.{refl, arith}
use Rattle.dia_tokens.specs.declared.class.TheConstants.{CLASSES}
use Rattle.dia_tokens.specs.Kinds.{kind_of, symbol_kind_of, is_digit}
use Rattle.dia_tokens.proofs.ByteTables.{agree_below, from_table}
use Rattle.dia_tokens.proofs.class.is_digit_byte.Goals as goal

pub returns : goal.returns
unfolding agree_below kind_of symbol_kind_of
returns c = from_table CLASSES 2 is_digit c.args.byte (omega arith) refl
