use Rattle.word_rule.specs.FirstWords.{HasNumbersSoFar}
use Rattle.word_rule.proofs.first_words.first_words.Given as goal

abbrev pub invariant-loop-task : goal.invariant-loop-task
invariant-loop-task l = HasNumbersSoFar l.plan l.task l.words.items
