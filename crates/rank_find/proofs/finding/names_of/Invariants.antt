use Rattle.std.proofs.Common.{◌≡◌, take}
use Rattle.rank_find.specs.FirstCycles.{names_of}
use Rattle.rank_find.proofs.finding.names_of.Given as goal

abbrev pub invariant-loop-task : goal.invariant-loop-task
invariant-loop-task l = l.names ≡ names_of l.diagram (take l.task-index l.tasks)
