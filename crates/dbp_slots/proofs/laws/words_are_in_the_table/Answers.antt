use Rattle.dbp_slots.proofs.Spots.{word_inside}
use Rattle.dbp_slots.proofs.laws.words_are_in_the_table.Goals as goal

pub returns : goal.returns
returns c = word_inside
