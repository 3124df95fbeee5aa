use Rattle.std.proofs.Common.{◌≡◌, map, take}
use Rattle.party_turns.proofs.rows.first_values.Given as goal

abbrev pub invariant-loop-out : goal.invariant-loop-out
invariant-loop-out l = l.words ≡ map (λ o. o.first) (take l.out-index l.task.outs)
