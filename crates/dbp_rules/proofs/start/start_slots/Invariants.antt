use Rattle.std.proofs.Common.{◌≡◌, ◌∷◌, ◌-◌, replicate, pos}
use Rattle.dbp_rules.proofs.start.start_slots.Given as goal

abbrev pub invariant-loop : goal.invariant-loop
invariant-loop l = l.slots ≡ record { stamp = 1; words = l.row } ∷ replicate (l.counter - 1) (record { stamp = 0; words = replicate l.wired.ports (pos 0) })
