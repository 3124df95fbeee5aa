use Rattle.std.proofs.Common.{◌≡◌, length}
use Rattle.dia_lines.specs.Lines.{after_assign}
use Rattle.dia_lines.proofs.token_checks.after_assign.Given as goal

abbrev pub invariant-loop-rest : goal.invariant-loop-rest
invariant-loop-rest l = after_assign l.rest ≡ after_assign l.tokens

abbrev pub decreases-loop-rest : goal.decreases-loop-rest
decreases-loop-rest l = length l.rest
