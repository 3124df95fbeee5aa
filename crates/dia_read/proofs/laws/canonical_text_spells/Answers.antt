use Rattle.dia_read.proofs.RoundTrip.{round-trip}
use Rattle.dia_read.proofs.laws.canonical_text_spells.Goals as goal

pub returns : goal.returns
returns c = round-trip
