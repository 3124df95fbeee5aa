use Rattle.std.proofs.Common.{◌≡◌, ◌≤◌, length, take}
use Rattle.rank_find.specs.Links.{direct_writers}
use Rattle.rank_find.proofs.links.direct_writers.Given as goal

abbrev pub invariant-loop-link : goal.invariant-loop-link
invariant-loop-link l = (l.writers ≡ direct_writers (take l.link-index l.links) l.reader) × (length l.writers ≤ l.link-index)
