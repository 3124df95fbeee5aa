use Rattle.std.proofs.Common.{ℕ, ◌<◌, ◌≡◌, slice_get, Some}
use Rattle.expr_eval.specs.LetOrders.{Uses}
use Rattle.expr_eval.proofs.cycle.first_used.Given as goal

abbrev pub invariant-loop-place : goal.invariant-loop-place
invariant-loop-place l = (k j : ℕ) → k < l.place → slice_get l.found k ≡ Some j → Uses l.base l.lets l.user j → ⊥
