use Rattle.rank_find.specs.Links.{IsWriter}
use Rattle.rank_find.proofs.Nearest.{NearestSoFar}
use Rattle.rank_find.proofs.cycle.nearest.Given as goal

abbrev pub invariant-loop-next : goal.invariant-loop-next
invariant-loop-next l = NearestSoFar (IsWriter l.writers) l.distances l.task l.next l.nearest l.least
