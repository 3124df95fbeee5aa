use Rattle.rta_check.proofs.Theorem.{kept_in_each_phase}
use Rattle.rta_check.proofs.laws.each_bound_holds_by_itself.Goals as goal

pub returns : goal.returns
returns c = kept_in_each_phase
