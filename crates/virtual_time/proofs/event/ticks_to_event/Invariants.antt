use Rattle.std.proofs.Common.{ℕ, ◌<◌, ◌≤◌, slice_index_or}
use Rattle.dbp_plan.specs.Lookups.{no_read}
use Rattle.virtual_time.specs.Events.{IsEventAfter}
use Rattle.virtual_time.proofs.event.ticks_to_event.Given as goal

abbrev pub invariant-loop-read : goal.invariant-loop-read
invariant-loop-read l = record {
  event : IsEventAfter l.task l.next;
  after : l.served < l.next;
  within : l.next ≤ l.task.cost;
  no_sooner : (r : ℕ) → r < l.read-index → l.served < (slice_index_or l.read-items r no_read).at → l.next ≤ (slice_index_or l.read-items r no_read).at;
}
