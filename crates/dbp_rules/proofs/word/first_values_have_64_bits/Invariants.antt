use Rattle.std.proofs.Common.{All, FitsSigned, take, w64}
use Rattle.dbp_rules.proofs.word.first_values_have_64_bits.Given as goal

abbrev pub invariant-loop-task : goal.invariant-loop-task
invariant-loop-task l = All (λ t. All (λ o. FitsSigned w64 o.first) t.outs) (take l.task-index l.diagram.tasks)
