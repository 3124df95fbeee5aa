use Rattle.dia_exprs.proofs.Depths.{Counts}
use Rattle.dia_exprs.proofs.counts.depth.Given as goal

abbrev pub invariant-loop-token : goal.invariant-loop-token
invariant-loop-token l = Counts l.tokens l.token-index l.open l.most
