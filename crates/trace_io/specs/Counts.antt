-- Clocks in range, the times of events, and how often a clock ticks.
use Rattle.std.specs.Prelude.{ℕ, ◌+◌, ◌-◌, ◌/◌, ◌<◌, ◌≤◌, if◌then◌else◌, nat_le, All, List, [], length, slice_index_or}
use Rattle.std.specs.List.Sorted.{IsStrictlyIncreasing}
use Rattle.dbp_plan.specs.declared.diagram.Clock.{Clock}
use Rattle.dbp_plan.specs.declared.diagram.Clock.TheVariants.{Every, On}
use Rattle.dbp_plan.specs.declared.limits.TheConstants.{MAX_TIME}

-- a clock whose period and offset are in range
abbrev pub HasNumbersInRange : Clock → Type 0
HasNumbersInRange (Every period offset) = (1 ≤ period) × (period ≤ MAX_TIME) × (offset ≤ MAX_TIME)
HasNumbersInRange (On event) = Unit {0}

-- a clock whose numbers are in range and whose event is one of so many
abbrev pub IsClockOf : ℕ → Clock → Type 0
IsClockOf events (Every period offset) = (1 ≤ period) × (period ≤ MAX_TIME) × (offset ≤ MAX_TIME)
IsClockOf events (On event) = event < events

-- `until` is at most the greatest time, and the times of each event rise and are below it
pub record IsTimetable (until : ℕ) (events : List (List ℕ)) : Type 0 where
  pub last : until ≤ MAX_TIME
  pub rising : All IsStrictlyIncreasing events
  pub ends : All (All (λ t. t < until)) events

-- how many base times the clock has: a periodic one by division
abbrev pub count_of : ℕ → List (List ℕ) → Clock → ℕ
count_of until events (Every period offset) = if nat_le until offset then 0 else (until - offset - 1) / period + 1
count_of until events (On event) = length (slice_index_or events event [])
