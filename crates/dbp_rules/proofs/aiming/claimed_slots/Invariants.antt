use Rattle.std.proofs.Common.{◌≡◌, take}
use Rattle.dbp_rules.proofs.ClaimedSlots.{claimed_over}
use Rattle.dbp_rules.proofs.aiming.claimed_slots.Given as goal

abbrev pub invariant-loop-k : goal.invariant-loop-k
invariant-loop-k l = l.claimed.items ≡ claimed_over l.wiring l.part l.i (take l.k-index l.k-items)
