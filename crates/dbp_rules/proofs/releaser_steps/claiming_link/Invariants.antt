-- No link so far claims the slot.
use Rattle.std.proofs.Common.{◌≡◌, None, take}
use Rattle.std.specs.List.{find}
use Rattle.dbp_rules.specs.PartyRules as rule
use Rattle.dbp_rules.proofs.releaser_steps.claiming_link.Given as goal

abbrev pub invariant-loop-k : goal.invariant-loop-k
invariant-loop-k l = find (rule.claims_slot_in l.wiring l.part l.i l.slot) (take l.k-index l.k-items) ≡ None
