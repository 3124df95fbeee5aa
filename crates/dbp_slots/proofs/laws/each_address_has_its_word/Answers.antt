use Rattle.dbp_slots.proofs.Spots.{word_at_address}
use Rattle.dbp_slots.proofs.laws.each_address_has_its_word.Goals as goal

pub returns : goal.returns
returns c = word_at_address
