use Rattle.std.proofs.Common.{ℕ, ◌<◌}
use Rattle.dbp_plan.specs.Cycles.{LiesOnCycle}
use Rattle.rank_find.specs.Links.{IsWriter}
use Rattle.rank_find.proofs.cycle.first_cycle.Given as goal

abbrev pub invariant-loop-start : goal.invariant-loop-start
invariant-loop-start l = (i : ℕ) → i < l.start → LiesOnCycle (IsWriter l.writers) i → ⊥
