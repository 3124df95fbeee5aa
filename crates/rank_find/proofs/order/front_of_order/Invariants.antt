use Rattle.std.proofs.Common.{◌-◌, length}
use Rattle.rank_find.specs.Fronts.{IsFront}
use Rattle.rank_find.proofs.order.front_of_order.Given as goal

abbrev pub invariant-loop-next : goal.invariant-loop-next
invariant-loop-next l = IsFront l.diagram l.placed

abbrev pub decreases-loop-next : goal.decreases-loop-next
decreases-loop-next l = length l.diagram.tasks - length l.placed
