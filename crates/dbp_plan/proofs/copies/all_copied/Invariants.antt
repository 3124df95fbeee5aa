use Rattle.std.proofs.Common.{◌≡◌, take}
use Rattle.dbp_plan.proofs.copies.all_copied.Given as goal

abbrev pub invariant-loop-item : goal.invariant-loop-item
invariant-loop-item g l = l.copy ≡ take l.item-index l.item-items
