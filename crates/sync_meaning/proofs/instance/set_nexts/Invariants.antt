use Rattle.sync_meaning.specs.Nexts.{NextsUpTo}
use Rattle.sync_meaning.proofs.instance.set_nexts.Given as goal

abbrev pub invariant-loop-next : goal.invariant-loop-next
invariant-loop-next l = NextsUpTo l.next-index l.task.nexts l.now l.initial.later l.later
