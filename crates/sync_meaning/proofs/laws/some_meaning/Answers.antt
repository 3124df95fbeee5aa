use Rattle.sync_meaning.specs.SomeMeaning.{some_meaning}
use Rattle.sync_meaning.proofs.laws.some_meaning.Goals as goal

pub returns : goal.returns
returns c = some_meaning
