use Rattle.std.proofs.Common.{ℕ, ◌<◌}
use Rattle.expr_eval.specs.LetOrders.{LiesOnCycle}
use Rattle.expr_eval.proofs.cycle.first_cycle.Given as goal

abbrev pub invariant-loop-i : goal.invariant-loop-i
invariant-loop-i l = (k : ℕ) → k < l.i → LiesOnCycle l.base l.lets k → ⊥
