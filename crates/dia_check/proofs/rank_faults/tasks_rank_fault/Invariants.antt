use Rattle.dia_check.specs.RankFaults.{task_rank_fault}
use Rattle.dbp_plan.proofs.FirstFaults.{FirstFrom}
use Rattle.dia_check.proofs.rank_faults.tasks_rank_fault.Given as goal

abbrev pub invariant-loop-place : goal.invariant-loop-place
invariant-loop-place l = FirstFrom (λ before t. task_rank_fault l.fn.policy t) l.fn.tasks l.fn.lines l.place
