use Rattle.std.proofs.Common.{◌≡◌, take}
use Rattle.dbp_slots.specs.Marks.{marks_after}
use Rattle.dbp_slots.proofs.free.mark.Given as goal

abbrev pub invariant-loop-slot : goal.invariant-loop-slot
invariant-loop-slot l = l.marks ≡ marks_after l.initial.marks (take l.slot-index l.slots)
