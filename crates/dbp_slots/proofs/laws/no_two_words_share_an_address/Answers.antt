use Rattle.dbp_slots.proofs.Spots.{one_word}
use Rattle.dbp_slots.proofs.laws.no_two_words_share_an_address.Goals as goal

pub returns : goal.returns
returns c = one_word
