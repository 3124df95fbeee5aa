use Rattle.std.proofs.Common.{◌≡◌, ℕ, length}
use Rattle.rank_find.specs.Distances.{AreDistances}
use Rattle.rank_find.specs.Links.{IsWriter}
use Rattle.rank_find.proofs.distance.measure.Given as goal

abbrev pub invariant-loop-distance : goal.invariant-loop-distance
invariant-loop-distance l =
    (length l.distances ≡ length l.initial.distances)
    × ((start : ℕ) → AreDistances (IsWriter l.writers) start 0 l.initial.distances → AreDistances (IsWriter l.writers) start l.distance l.distances)
