use Rattle.std.proofs.Common.{◌+◌, ◌-◌, ◌≤◌}
use Rattle.rta_check.specs.Levels.{IsStart}
use Rattle.rta_check.proofs.level.Level.bound.Given as goal

abbrev pub invariant-loop-ticks : goal.invariant-loop-ticks
invariant-loop-ticks l = record {
  start : IsStart l.self l.ticks;
  some : 1 ≤ l.ticks;
}

abbrev pub decreases-loop-ticks : goal.decreases-loop-ticks
decreases-loop-ticks l = l.self.period + 1 - l.ticks
