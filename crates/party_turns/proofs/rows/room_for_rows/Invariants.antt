use Rattle.std.proofs.Common.{◌≡◌, ◌++◌, pos, map}
use Rattle.std.specs.Prelude.{replicate}
use Rattle.party_turns.proofs.rows.room_for_rows.Given as goal

abbrev pub invariant-loop : goal.invariant-loop
invariant-loop l = l.words ≡ map (λ o. o.first) l.task.outs ++ replicate l.counter (pos 0)
