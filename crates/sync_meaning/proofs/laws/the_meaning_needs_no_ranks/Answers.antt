use Rattle.sync_meaning.proofs.BareMeaning.{same-meaning}
use Rattle.sync_meaning.proofs.laws.the_meaning_needs_no_ranks.Goals as goal

pub returns : goal.returns
returns c = same-meaning
