-- The batches so far.
use Rattle.std.proofs.Common.{◌≡◌, take}
use Rattle.release_list.specs.Releases.{releases_of}
use Rattle.release_list.proofs.release.releases.Given as goal

abbrev pub invariant-loop-batch : goal.invariant-loop-batch
invariant-loop-batch l = l.list ≡ releases_of l.plan.diagram.links (take l.batch-index l.plan.batches)
