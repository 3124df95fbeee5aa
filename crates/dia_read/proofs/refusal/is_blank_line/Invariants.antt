use Rattle.std.proofs.Common.{◌≡◌, length}
use Rattle.dia_tokens.specs.Blanks.{is_blank_line}
use Rattle.dia_read.proofs.refusal.is_blank_line.Given as goal

abbrev pub invariant-loop-rest : goal.invariant-loop-rest
invariant-loop-rest l = is_blank_line l.rest ≡ is_blank_line l.line

abbrev pub decreases-loop-rest : goal.decreases-loop-rest
decreases-loop-rest l = length l.rest
