use Rattle.std.proofs.Common.{◌≡◌, ℕ, ◌<◌, false}
use Rattle.slot_need.specs.Faults.{is_sharing}
use Rattle.slot_need.proofs.fault.first_sharing.Given as goal

abbrev pub invariant-loop-task : goal.invariant-loop-task
invariant-loop-task l = (j : ℕ) → j < l.task → is_sharing l.diagram j ≡ false
