-- The merge of clocks into batches.
use Rattle.std.specs.Prelude.{◌≡◌, ◌≢◌, ℕ, ◌+◌, ◌<◌, ◌≤◌, ◌==◌, nat_eq, Bool, true, false, All, List, [], length, map, sum, sum_by, slice_get, slice_index, slice_index_or, Option, Some, None, IfSome, MatchOption, unwrap_or}
use Rattle.std.specs.List.{list_any}
use Rattle.std.specs.List.Sorted.{IsStrictlyIncreasing}
use Rattle.std.specs.Option.{option_eq}
use Rattle.dbp_plan.specs.declared.diagram.Clock.{Clock}
use Rattle.dbp_plan.specs.declared.limits.TheConstants.{MAX_OCCURRENCES}
use Rattle.dbp_plan.specs.declared.schedule.Batch.{Batch}
use Rattle.dbp_plan.specs.Clocks.{time_at}
use Rattle.dbp_plan.specs.Occurrences.{occurrence_count, times_of}
use Rattle.trace_io.specs.Counts.{count_of}

-- how often all clocks together tick
abbrev pub ticks_of : ℕ → List (List ℕ) → List Clock → ℕ
ticks_of until events clocks = sum_by (count_of until events) clocks

-- each clock stands in the batches of exactly its base times
pub record AreMerged (until : ℕ) (events : List (List ℕ)) (clocks : List Clock) (batches : List Batch) : Type 0 where
  pub rising : IsStrictlyIncreasing (map (λ b. b.time) batches)
  pub in_order : All (λ b. IsStrictlyIncreasing b.tasks) batches
  pub some : All (λ b. b.tasks ≢ []) batches
  pub named : All (λ b. All (λ i. i < length clocks) b.tasks) batches
  pub ends : All (λ b. b.time < until) batches
  pub few : occurrence_count batches ≤ MAX_OCCURRENCES
  pub each : (i k : ℕ) (clock : Clock) → slice_get clocks i ≡ Some clock → slice_get (times_of batches i) k ≡ time_at until events clock k

-- ---- one step, after so many occurrences of each clock were taken

-- the time of the clock's next occurrence
abbrev pub next_of : ℕ → List (List ℕ) → List Clock → List ℕ → ℕ → Clock → Option ℕ
next_of until events clocks taken i d = time_at until events (slice_index_or clocks i d) (slice_index taken i)

-- none of the first n clocks has a next occurrence, or the least next one is at this time
abbrev pub IsLeastNext : ℕ → List (List ℕ) → List Clock → List ℕ → ℕ → Option ℕ → Type 0
IsLeastNext until events clocks taken n r = MatchOption r
    ((i : ℕ) (d : Clock) → i < n → next_of until events clocks taken i d ≡ None)
    (λ time. (time < until)
    × ((i : ℕ) × (i < n) × ((d : Clock) → next_of until events clocks taken i d ≡ Some time))
    × ((i : ℕ) (d : Clock) → i < n → IfSome (next_of until events clocks taken i d) (λ t. time ≤ t)))

-- the times of all clocks' next occurrences, and `until` for a clock that has none
abbrev pub AreNext : ℕ → List (List ℕ) → List Clock → List ℕ → List ℕ → Type 0
AreNext until events clocks taken next = (length next ≡ length clocks)
    × ((i : ℕ) (d : Clock) → i < length clocks → slice_index next i ≡ unwrap_or (next_of until events clocks taken i d) until)

-- the least of the first n of the times, or the end if none of these is before it
pub record IsLeast (until : ℕ) (times : List ℕ) (n least : ℕ) : Type 0 where
  pub within : least ≤ until
  pub stands : least < until → (i : ℕ) × (i < n) × (slice_index times i ≡ least)
  pub below : (i : ℕ) → i < n → least ≤ slice_index times i

-- whether a next occurrence is at this time
abbrev pub is_at : ℕ → Option ℕ → Bool
is_at time r = option_eq nat_eq r (Some time)

-- one more if a next occurrence is at this time
abbrev pub one_if : Bool → ℕ
one_if true = 1
one_if false = 0

-- of the first n clocks exactly those whose next occurrence is at this time are named, in order, and that occurrence is taken
pub record TakesDue (until : ℕ) (events : List (List ℕ)) (clocks : List Clock) (before after : List ℕ) (time n : ℕ) (tasks : List ℕ) : Type 0 where
  pub in_order : IsStrictlyIncreasing tasks
  pub named : All (λ i. i < n) tasks
  pub due : (i : ℕ) (d : Clock) → i < n → list_any (λ t. t == i) tasks ≡ is_at time (next_of until events clocks before i d)
  pub places : length after ≡ length before
  pub moved : (i : ℕ) (d : Clock) → i < n → slice_index after i ≡ slice_index before i + one_if (is_at time (next_of until events clocks before i d))
  pub kept : (i : ℕ) → n ≤ i → slice_index after i ≡ slice_index before i
  pub counted : length tasks + sum before ≡ sum after
