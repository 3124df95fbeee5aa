use Rattle.std.proofs.Common.{◌≡◌, ℕ, ◌<◌, Contains, slice_get, Some}
use Rattle.rank_find.proofs.order.is_ready.Given as goal

abbrev pub invariant-loop-writer : goal.invariant-loop-writer
invariant-loop-writer l = (k j : ℕ) → k < l.writer-index → slice_get l.writers k ≡ Some j → Contains l.placed j
