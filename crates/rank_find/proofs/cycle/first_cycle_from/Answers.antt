use Rattle.std.proofs.Common.{arith}
use Rattle.rank_find.specs.Links.{IsWriter}
use Rattle.rank_find.proofs.Distances.{measured_none}
use Rattle.rank_find.proofs.cycle.first_cycle_from.Goals as goal

pub descend-requires-clause-distances : goal.descend-requires-clause-distances
descend-requires-clause-distances c =
    c.measure.ensures.distances c.args.start (measured_none (IsWriter c.args.writers.now) 32 c.args.start (omega (arith, c.requires.start, c.requires.few)))
