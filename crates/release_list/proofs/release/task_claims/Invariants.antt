-- The links so far.
use Rattle.std.proofs.Common.{◌≡◌, map}
use Rattle.release_list.specs.Releases.{into_among}
use Rattle.release_list.specs.declared.release.Release.TheVariants.{Claim}
use Rattle.release_list.proofs.release.task_claims.Given as goal

abbrev pub invariant-loop-link : goal.invariant-loop-link
invariant-loop-link l = l.claims ≡ map Claim (into_among l.links l.task l.link)
