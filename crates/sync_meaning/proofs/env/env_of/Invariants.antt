use Rattle.std.proofs.Common.{◌≡◌, ◌++◌, map, replicate, pos}
use Rattle.sync_meaning.proofs.env.env_of.Given as goal

abbrev pub invariant-loop : goal.invariant-loop
invariant-loop l = l.now ≡ map (λ s. s.first) l.task.states ++ replicate l.counter (pos 0)
