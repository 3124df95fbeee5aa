use Rattle.rta_check.proofs.BoundLists.{only_bounds, some_bounds}
use Rattle.rta_check.proofs.laws.one_list_of_bounds.Goals as goal

pub returns-clause-there : goal.returns-clause-there
returns-clause-there c = some_bounds

pub returns-clause-only : goal.returns-clause-only
returns-clause-only c = only_bounds
