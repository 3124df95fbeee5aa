use Rattle.std.proofs.Common.{◌<◌, ℕ}
use Rattle.trace_io.specs.Guards.{AreAlike}
use Rattle.trace_io.proofs.guards.alike_before.Given as goal

abbrev pub invariant-loop-j : goal.invariant-loop-j
invariant-loop-j l = (k : ℕ) → k < l.j → AreAlike l.tasks k l.i → ⊥
