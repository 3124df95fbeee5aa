use Rattle.std.proofs.Common.{◌∙◌, arith}
use Rattle.rank_find.proofs.Distances.{measured_more}
use Rattle.rank_find.proofs.distance.measure.Goals as goal

pub loop-distance-preserved : goal.loop-distance-preserved
loop-distance-preserved c = (
  c.reach.ensures.size ∙ c.loop-distance.invariant.0,
  (λ start begun. measured_more c.args.writers.now start c.loop-distance.distance c.loop-distance.distances c.reach.new.distances (omega (arith, c.requires.few, c.loop-distance-test.true)) (c.loop-distance.invariant.1 start begun) c.reach.ensures),
)
