use Rattle.std.proofs.Common.{◌≡◌, ◌≤◌, ◌++◌, drop, length, take}
use Rattle.dbp_plan.specs.Clocks.{base_times}
use Rattle.trace_io.proofs.guards.push_times.Given as goal

abbrev pub invariant-loop-number : goal.invariant-loop-number
invariant-loop-number l = record {
  made : l.times ≡ l.fn.times ++ drop l.from (take l.number (base_times l.until l.events l.clock));
  few : length l.times ≤ l.number;
}
