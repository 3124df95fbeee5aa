use Rattle.std.proofs.Common.{ℕ, ◌<◌, Contains}
use Rattle.expr_eval.specs.LetSearch.{UsesNoneOf}
use Rattle.expr_eval.proofs.cycle.next_user.Given as goal

abbrev pub invariant-loop-i : goal.invariant-loop-i
invariant-loop-i l = (k : ℕ) → k < l.i → (Contains l.found k → ⊥) → UsesNoneOf l.base l.lets l.found k
