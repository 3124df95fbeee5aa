use Rattle.std.proofs.Common.{length}
use Rattle.dia_tokens.proofs.Spelled.{Spelled}
use Rattle.dia_tokens.proofs.spelling.line_spelling.Given as goal

abbrev pub invariant-loop-fail : goal.invariant-loop-fail
invariant-loop-fail l = Spelled l.line l.text.items l.fault l.first l.signed l.rest

abbrev pub decreases-loop-fail : goal.decreases-loop-fail
decreases-loop-fail l = length l.rest
