use Rattle.std.proofs.Common.{All, FitsSigned, take, w64}
use Rattle.dbp_rules.proofs.word.firsts_have_64_bits.Given as goal

abbrev pub invariant-loop-out : goal.invariant-loop-out
invariant-loop-out l = All (λ o. FitsSigned w64 o.first) (take l.out-index l.outs)
