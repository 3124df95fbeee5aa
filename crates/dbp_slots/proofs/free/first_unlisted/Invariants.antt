use Rattle.std.proofs.Common.{ℕ, ◌<◌, ◌⊎◌, Contains}
use Rattle.dbp_slots.proofs.free.first_unlisted.Given as goal

abbrev pub invariant-loop-slot : goal.invariant-loop-slot
invariant-loop-slot l = (s : ℕ) → s < l.slot-counter → Contains l.claims s ⊎ Contains l.kept s
