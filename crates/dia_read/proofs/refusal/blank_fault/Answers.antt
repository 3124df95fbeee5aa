use Rattle.std.proofs.Common.{rules}
use Rattle.dia_read.proofs.BlankTexts.{empty-fault, header-fault, byte-fault}
use Rattle.dia_read.proofs.OneMore.{nothing-left}
use Rattle.dia_read.proofs.refusal.blank_fault.Goals as goal

pub returns-then-is_empty : goal.returns-then-is_empty
returns-then-is_empty c = empty-fault c.args.bytes.now (nothing-left c.args.bytes.now (search rules)) c.requires

pub returns-then-all_allowed : goal.returns-then-all_allowed
returns-then-all_allowed c = header-fault c.args.bytes.now c.next_line.result.0.now _ c.next_line.ensures.value c.requires (search rules)

pub returns-else-all_allowed : goal.returns-else-all_allowed
returns-else-all_allowed c = byte-fault c.args.bytes.now c.next_line.result.0.now _ c.next_line.ensures.value c.requires (search rules)
