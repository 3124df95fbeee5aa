use Rattle.dia_check.specs.Faults.{part_fault}
use Rattle.dbp_plan.proofs.FirstFaults.{FirstFrom}
use Rattle.dia_check.proofs.first_line.body_fault.Given as goal

abbrev pub invariant-loop-place : goal.invariant-loop-place
invariant-loop-place l = FirstFrom (part_fault l.fn.body l.fn.task) l.fn.task.parts l.fn.lines l.place
