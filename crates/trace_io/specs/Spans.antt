-- The spans between an input's samples, in each of which its value stays, and the times of a clock in them.
use Rattle.std.specs.Prelude.{◌≡◌, ℕ, ℤ, pos, ◌+◌, ◌<◌, ◌≤◌, Bool, not, List, length, slice_get, Some, MatchOption}
use Rattle.std.specs.Ordering.{int_eq}
use Rattle.dbp_plan.specs.declared.schedule.Sample.{Sample}
use Rattle.dbp_plan.specs.Samples.{value_until}

-- whether the input that has this first value and these samples isn't 0 at the time
abbrev pub is_on_by : ℤ → List Sample → ℕ → Bool
is_on_by first own time = not (int_eq (value_until first own time) (pos 0))

-- so many of the times, the first ones, are before this time
pub record IsCountBefore (times : List ℕ) (time n : ℕ) : Type 0 where
  pub within : n ≤ length times
  pub before : (k t : ℕ) → k < n → slice_get times k ≡ Some t → t < time
  pub after : (k t : ℕ) → n ≤ k → slice_get times k ≡ Some t → time ≤ t

-- so many of the times are before the sample with this number, counted from 0; all of them, if there is no such sample
abbrev pub IsSpanEnd : List ℕ → List Sample → ℕ → ℕ → Type 0
IsSpanEnd times own k n = MatchOption (slice_get own k) (n ≡ length times) (λ s. IsCountBefore times s.time n)

-- so many of the times are before the span that this sample ends
pub record IsSpanStart (times : List ℕ) (own : List Sample) (k n : ℕ) : Type 0 where
  pub first : k ≡ 0 → n ≡ 0
  pub next : (j : ℕ) → k ≡ j + 1 → IsSpanEnd times own j n
