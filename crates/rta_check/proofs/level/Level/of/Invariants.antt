use Rattle.rta_check.proofs.CountedTasks.{AreCounted}
use Rattle.rta_check.proofs.level.Level.of.Given as goal

abbrev pub invariant-loop-other : goal.invariant-loop-other
invariant-loop-other l = AreCounted l.diagram l.task l.other l.higher.items
