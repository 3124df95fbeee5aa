use Rattle.std.proofs.Common.{◌≡◌, map, take}
use Rattle.dbp_rules.proofs.work.first_row.Given as goal

abbrev pub invariant-loop-out : goal.invariant-loop-out
invariant-loop-out l = l.row ≡ map (λ o. o.first) (take l.out-index l.outs)
