use Rattle.dbp_plan.specs.Ranks.{ranks_of}
use Rattle.dia_check.proofs.RankLaws.{read_line_fault, FirstRest}
use Rattle.dia_check.proofs.rank_faults.reads_rank_fault.Given as goal

abbrev pub invariant-loop-read : goal.invariant-loop-read
invariant-loop-read l = FirstRest (read_line_fault (ranks_of l.fn.policy l.fn.tasks) l.fn.links) l.fn.reads l.read-index
