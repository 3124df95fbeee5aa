use Rattle.std.proofs.Common.{[], ◌∷◌, ◌++◌, ◌-◌, length}
use Rattle.rank_find.specs.Links.{IsWriter}
use Rattle.rank_find.proofs.Descents.{IsDescent}
use Rattle.rank_find.proofs.cycle.descend.Given as goal

abbrev pub invariant-loop-next : goal.invariant-loop-next
invariant-loop-next l = IsDescent (IsWriter l.writers) l.start l.distances (l.cycle ++ l.task ∷ []) l.task

abbrev pub decreases-loop-next : goal.decreases-loop-next
decreases-loop-next l = length l.writers - length l.cycle
