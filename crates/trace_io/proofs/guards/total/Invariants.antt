use Rattle.std.proofs.Common.{◌≡◌, ◌<◌, ◌≤◌, ◌*◌, ℕ, All, List, length, get_or, slice_get, Some, sum_by, take}
use Rattle.dbp_plan.specs.declared.diagram.Task.{Task}
use Rattle.dbp_plan.specs.declared.schedule.Sample.{Sample}
use Rattle.trace_io.specs.Batches.{times_in}
use Rattle.trace_io.specs.Guards.{HasItsSamples}
use Rattle.trace_io.proofs.guards.total.Given as goal

abbrev pub invariant-loop-i : goal.invariant-loop-i
invariant-loop-i l = record {
  is : (samples : List Sample) → All (HasItsSamples samples l.own) l.diagram.tasks → l.sum ≡ sum_by (λ t. length (times_in l.diagram samples l.events t)) (take l.i l.diagram.tasks);
  each : (samples : List Sample) → All (HasItsSamples samples l.own) l.diagram.tasks → (j : ℕ) (t : Task) → j < l.i → slice_get l.diagram.tasks j ≡ Some t → get_or l.counts j 0 ≡ length (times_in l.diagram samples l.events t);
  size : length l.counts ≡ 32;
  fits : (j : ℕ) → j < l.i → get_or l.counts j 0 < 4294967296;
  small : l.sum ≤ l.i * 4294967296;
}
