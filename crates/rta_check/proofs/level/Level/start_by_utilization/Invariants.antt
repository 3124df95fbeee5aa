use Rattle.std.proofs.Common.{◌≡◌, ◌+◌, ◌*◌, ◌≤◌, take}
use Rattle.std.specs.Prelude.{sum_by}
use Rattle.rta_check.proofs.HigherTasks.{asked_by, used_by}
use Rattle.rta_check.proofs.level.Level.start_by_utilization.Given as goal

abbrev pub invariant-loop-higher : goal.invariant-loop-higher
invariant-loop-higher l = record {
  asked : l.asked ≡ l.self.cost + sum_by (asked_by l.ticks l.longest) (take l.higher-index l.higher-items);
  used : l.utilization ≡ sum_by (used_by l.longest) (take l.higher-index l.higher-items);
  asked_few : l.asked ≤ 1000000000 + l.higher-index * 1000000000000000000;
  used_few : l.utilization ≤ l.higher-index * (1000000000 * 18446744073709551616);
}
