use Rattle.std.proofs.Common.{refl, arith}
use Rattle.dia_tokens.proofs.ByteTables.{agree_below, from_table}
use Rattle.dia_lines.specs.Sections.{is_trace_byte}
use Rattle.dia_lines.specs.declared.trace.TheConstants.{TRACE_BYTES}
use Rattle.dia_lines.proofs.trace.is_allowed_byte.Goals as goal

pub returns : goal.returns
unfolding agree_below
returns c = from_table TRACE_BYTES 1 is_trace_byte c.args.byte (omega arith) refl
