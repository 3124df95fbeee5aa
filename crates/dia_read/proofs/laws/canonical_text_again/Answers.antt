use Rattle.dia_read.proofs.RoundTrip.{printed-again}
use Rattle.dia_read.proofs.laws.canonical_text_again.Goals as goal

pub returns : goal.returns
returns c = printed-again
