use Rattle.rta_check.proofs.BoundLists.{AreBoundsUpTo}
use Rattle.rta_check.proofs.analysis.rta.Given as goal

abbrev pub invariant-loop-task : goal.invariant-loop-task
invariant-loop-task l = AreBoundsUpTo l.diagram l.task l.bounds
