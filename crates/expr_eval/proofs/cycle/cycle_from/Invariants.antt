use Rattle.expr_eval.proofs.Searches.{IsDescent}
use Rattle.expr_eval.proofs.cycle.cycle_from.Given as goal

abbrev pub invariant-loop-place : goal.invariant-loop-place
invariant-loop-place l = IsDescent l.base l.lets l.target l.found l.bound l.cycle l.user

abbrev pub decreases-loop-place : goal.decreases-loop-place
decreases-loop-place l = l.bound
