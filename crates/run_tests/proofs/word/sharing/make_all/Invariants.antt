use Rattle.word_rule.specs.Seats.{ReleaserSits, TaskSits}
use Rattle.run_tests.proofs.word.sharing.make_all.Given as goal

abbrev pub invariant-loop-call : goal.invariant-loop-call
invariant-loop-call g l = (ReleaserSits l.words l.releaser) × (TaskSits l.words l.a) × (TaskSits l.words l.b)
