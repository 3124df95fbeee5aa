use Rattle.std.proofs.Common.{◌≡◌, map, take}
use Rattle.sync_meaning.proofs.env.first_values.Given as goal

abbrev pub invariant-loop-state : goal.invariant-loop-state
invariant-loop-state l = l.values ≡ map (λ s. s.first) (take l.state-index l.states)
