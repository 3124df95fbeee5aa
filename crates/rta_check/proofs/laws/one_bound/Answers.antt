use Rattle.rta_check.proofs.OneBound.{only_bound, some_bound}
use Rattle.rta_check.proofs.laws.one_bound.Goals as goal

pub returns-clause-there : goal.returns-clause-there
returns-clause-there c = some_bound

pub returns-clause-only : goal.returns-clause-only
returns-clause-only c = only_bound
