use Rattle.word_rule.proofs.ReleaserCalls.{links_in, named_in}
use Rattle.word_rule.proofs.seats.ReleaserSeat.refusal.Goals as goal

pub refusal-requires-clause-named : goal.refusal-requires-clause-named
refusal-requires-clause-named c = named_in c.args.words.now c.args.step c.requires.named

pub refusal-requires-clause-links : goal.refusal-requires-clause-links
refusal-requires-clause-links c = links_in c.args.words.now
