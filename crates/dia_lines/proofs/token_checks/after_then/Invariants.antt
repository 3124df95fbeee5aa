use Rattle.std.proofs.Common.{◌≡◌, length}
use Rattle.dia_lines.specs.Lines.{after_then}
use Rattle.dia_lines.proofs.token_checks.after_then.Given as goal

abbrev pub invariant-loop-rest : goal.invariant-loop-rest
invariant-loop-rest l = after_then l.rest ≡ after_then l.tokens

abbrev pub decreases-loop-rest : goal.decreases-loop-rest
decreases-loop-rest l = length l.rest
