use Rattle.dbp_slots.specs.Layout.{sizes}
use Rattle.word_rule.specs.FirstWords.{HasSlotFilled}
use Rattle.word_rule.proofs.first_words.fill_first_slot.Given as goal

abbrev pub invariant-loop-port : goal.invariant-loop-port
invariant-loop-port l = HasSlotFilled (sizes l.layout) l.task l.outs l.port l.fn.words l.words
