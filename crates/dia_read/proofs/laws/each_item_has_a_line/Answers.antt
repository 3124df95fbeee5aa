use Rattle.dia_read.proofs.SpelledDocuments.{item-lines}
use Rattle.dia_read.proofs.laws.each_item_has_a_line.Goals as goal

pub returns : goal.returns
returns c = item-lines
