use Rattle.sync_meaning.specs.Lets.{LetsUpTo}
use Rattle.sync_meaning.proofs.instance.set_lets.Given as goal

abbrev pub invariant-loop-place : goal.invariant-loop-place
invariant-loop-place l = LetsUpTo l.place-index l.task l.initial.now l.now
