-- The next event of an instance that is served: its next reads, or its end.
use Rattle.std.specs.Prelude.{◌≡◌, ℕ, ◌+◌, ◌<◌, ◌≤◌, length, slice_index_or}
use Rattle.dbp_plan.specs.declared.diagram.Task.{Task}
use Rattle.dbp_plan.specs.Lookups.{no_read}

-- an instance of the task makes a read after so many ticks of its service, or ends then
pub data IsEventAfter (task : Task) (ticks : ℕ) : Type 0 where
  is_end : ticks ≡ task.cost → IsEventAfter task ticks
  is_read : (r : ℕ) → r < length task.reads → ticks ≡ (slice_index_or task.reads r no_read).at → IsEventAfter task ticks

-- after so many ticks of its service an instance of the task that was served so many makes its next reads, or ends
pub record IsNextEvent (task : Task) (served ticks : ℕ) : Type 0 where
  pub event : IsEventAfter task (served + ticks)
  pub some : 0 < ticks
  pub within : served + ticks ≤ task.cost
  pub no_sooner : (r : ℕ) → r < length task.reads
      → served < (slice_index_or task.reads r no_read).at
      → served + ticks ≤ (slice_index_or task.reads r no_read).at
