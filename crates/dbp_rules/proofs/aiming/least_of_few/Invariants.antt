use Rattle.std.proofs.Common.{ℕ, ◌<◌, ◌⊎◌, Contains}
use Rattle.dbp_rules.specs.PartyRules.{claimed_in, kept_after_aim}
use Rattle.dbp_rules.specs.Lookups.{entry_in}
use Rattle.dbp_rules.proofs.aiming.least_of_few.Given as goal

abbrev pub invariant-loop-slot : goal.invariant-loop-slot
invariant-loop-slot l = (s : ℕ) → s < l.slot → Contains (claimed_in l.wiring l.part l.i) s ⊎ Contains (kept_after_aim (entry_in l.part l.i)) s
