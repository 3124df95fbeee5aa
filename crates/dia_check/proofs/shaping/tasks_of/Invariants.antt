use Rattle.dia_check.specs.Scopes.{HasLinksBefore}
use Rattle.dia_check.proofs.TasksSoFar.{TasksSoFar}
use Rattle.dia_check.proofs.shaping.tasks_of.Given as goal

abbrev pub invariant-loop-number : goal.invariant-loop-number
invariant-loop-number l = record {
  tasks : TasksSoFar l.fn.doc l.number l.tasks l.rest;
  found : HasLinksBefore l.fn.doc l.number l.rest l.found;
}
