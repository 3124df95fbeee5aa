use Rattle.std.proofs.Common.{◌+◌, ◌≤◌, max}
use Rattle.rta_check.specs.Levels.{IsStart}
use Rattle.rta_check.proofs.level.Level.later_start.Given as goal

abbrev pub invariant-loop-higher : goal.invariant-loop-higher
invariant-loop-higher l = record {
  start : IsStart l.self l.latest;
  later : l.ticks ≤ l.latest;
  within : l.latest ≤ max l.ticks (l.self.period + 1);
}
