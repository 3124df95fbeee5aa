use Rattle.std.proofs.Common.{length}
use Rattle.dia_read.proofs.Reaching.{Reached}
use Rattle.dia_read.proofs.read.read_lines.Given as goal

abbrev pub invariant-loop-rest : goal.invariant-loop-rest
invariant-loop-rest l = Reached l.bytes l.rest l.number l.position l.draft

abbrev pub decreases-loop-rest : goal.decreases-loop-rest
decreases-loop-rest l = length l.rest
