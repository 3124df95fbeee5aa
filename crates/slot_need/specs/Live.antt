-- The rows of a task that matter after a batch. No slot is among these words.
use Rattle.std.specs.Prelude.{◌≡◌, ◌≢◌, ℕ, ◌-◌, ◌<◌, ◌≤◌, ◌↔◌, AllPairs, IsTrue, List, length, slice_get, Some}
use Rattle.dbp_plan.specs.declared.diagram.Link.{Link}
use Rattle.dbp_plan.specs.declared.plan.Plan.{Plan}
use Rattle.dbp_plan.specs.Occurrences.{count_until, times_of}
use Rattle.dbp_slots.specs.Slots.{counts_of, is_to_lower, longest_delay}
use Rattle.rank_order.specs.Ends.{IsEnd, NoOverrun}
use Rattle.rank_order.specs.Instances.{Instance, IsInstance, release_of}
use Rattle.rank_order.specs.Service.{left_of}
use Rattle.rank_order.specs.ServiceOf.{service}

-- the number of the task's latest row at t: how often the task has occurred
abbrev pub latest_row : Plan → ℕ → ℕ → ℕ
latest_row p w t = count_until (times_of p.batches w) t

-- The row with this number matters after the batch at t: it is the latest, or one of as many before it as the longest delay of the
-- task's links; or a reader below the task, which was released by then and has not ended, reads it over a link.
pub data IsLive (p : Plan) (w t : ℕ) : ℕ → Type 0 where
  latest : (j : ℕ) → j ≤ longest_delay p.diagram.links w → IsLive p w t (latest_row p w t - j)
  read : (k e : ℕ) (l : Link) (x : Instance) → slice_get p.diagram.links k ≡ Some l → IsTrue (is_to_lower p.diagram.ranks w l) → l.reader ≡ x.task
      → IsInstance p x → release_of p x ≤ t → IsEnd (service p) x e → t < e → IsLive p w t (latest_row p w (release_of p x) - l.delay)

-- after the batch at t just so many rows of the task matter: a list of distinct numbers has just these
pub record HasLiveRows (p : Plan) (w t count : ℕ) : Type 0 where
  pub rows : List ℕ
  pub size : length rows ≡ count
  pub apart : AllPairs (λ m n. m ≢ n) rows
  pub each : (n : ℕ) → ((k : ℕ) × (slice_get rows k ≡ Some n)) ↔ IsLive p w t n

-- the plan has no overrun, and after its batch at t as many rows of the task matter as a simulation gives it slots
pub record NeedsAllSlots (p : Plan) (w t : ℕ) : Type 0 where
  pub no_overrun : NoOverrun p (left_of p (service p))
  pub rows : HasLiveRows p w t (counts_of p.diagram w).sim
