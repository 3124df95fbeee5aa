use Rattle.rta_check.proofs.BoundLists.{bounds_kept}
use Rattle.rta_check.proofs.laws.bounds_are_kept.Goals as goal

pub returns : goal.returns
returns c = bounds_kept
