use Rattle.std.proofs.Common.{◌≡◌, length}
use Rattle.dia_read.specs.Documents.{is_blank_text}
use Rattle.dia_read.proofs.refusal.is_blank_text.Given as goal

abbrev pub invariant-loop-rest : goal.invariant-loop-rest
invariant-loop-rest l = is_blank_text l.rest ≡ is_blank_text l.bytes

abbrev pub decreases-loop-rest : goal.decreases-loop-rest
decreases-loop-rest l = length l.rest
