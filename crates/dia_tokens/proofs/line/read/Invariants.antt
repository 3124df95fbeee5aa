use Rattle.std.proofs.Common.{length}
use Rattle.dia_tokens.proofs.ReadLaws.{Reads}
use Rattle.dia_tokens.proofs.line.read.Given as goal

abbrev pub invariant-loop-fail : goal.invariant-loop-fail
invariant-loop-fail l = Reads l.line l.out.items l.fault l.signed l.rest

abbrev pub decreases-loop-fail : goal.decreases-loop-fail
decreases-loop-fail l = length l.rest
