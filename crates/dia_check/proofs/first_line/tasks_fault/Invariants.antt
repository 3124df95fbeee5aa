use Rattle.dia_check.proofs.TaskFaults.{TasksFrom}
use Rattle.dia_check.proofs.first_line.tasks_fault.Given as goal

abbrev pub invariant-loop-place : goal.invariant-loop-place
invariant-loop-place l = TasksFrom l.fn.doc.body l.fn.doc.body.tasks l.fn.doc.lines.tasks l.fn.doc.lines.parts l.place l.rest
