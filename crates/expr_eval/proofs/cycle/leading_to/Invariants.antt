use Rattle.std.proofs.Common.{◌-◌, length}
use Rattle.expr_eval.specs.LetSearch.{LeadTo}
use Rattle.expr_eval.proofs.cycle.leading_to.Given as goal

abbrev pub invariant-loop-user : goal.invariant-loop-user
invariant-loop-user l = LeadTo l.base l.lets l.target l.found

abbrev pub decreases-loop-user : goal.decreases-loop-user
decreases-loop-user l = length l.lets - length l.found
