use Rattle.std.proofs.Common.{length}
use Rattle.dbp_replay.proofs.KeptSteps.{NamedTo}
use Rattle.dbp_replay.proofs.script.read_script.Given as goal

abbrev pub invariant-loop-lines : goal.invariant-loop-lines
invariant-loop-lines l = NamedTo l.fn.diagram l.initial.rest l.steps l.rest

abbrev pub decreases-loop-lines : goal.decreases-loop-lines
decreases-loop-lines l = length l.rest
