use Rattle.std.proofs.Common.{◌≡◌, ◌+◌, ◌*◌, ◌≤◌, take}
use Rattle.std.specs.Prelude.{sum_by}
use Rattle.rta_check.specs.Levels.{higher_request}
use Rattle.rta_check.proofs.level.Level.request_bound.Given as goal

abbrev pub invariant-loop-higher : goal.invariant-loop-higher
invariant-loop-higher l = record {
  asked : l.asked ≡ l.self.cost + sum_by (higher_request l.ticks) (take l.higher-index l.higher-items);
  few : l.asked ≤ 1000000000 + l.higher-index * 1000000000000000000;
}
