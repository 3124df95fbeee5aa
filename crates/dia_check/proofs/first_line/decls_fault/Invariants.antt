use Rattle.dia_check.specs.Faults.{decl_fault}
use Rattle.dbp_plan.proofs.FirstFaults.{FirstFrom}
use Rattle.dia_check.proofs.first_line.decls_fault.Given as goal

abbrev pub invariant-loop-place : goal.invariant-loop-place
invariant-loop-place l = FirstFrom decl_fault l.fn.decls l.fn.lines l.place
