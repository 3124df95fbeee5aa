-- One batch of the printed lines, if each task was counted before it.
use Rattle.std.specs.Prelude.{◌≡◌, ℕ, ◌+◌, ◌<◌, ◌≤◌, ◌==◌, if◌then◌else◌, All, List, length, slice_index}
use Rattle.std.specs.List.{flat_map, list_any}
use Rattle.std.specs.List.Sorted.{IsStrictlyIncreasing}
use Rattle.dbp_plan.specs.declared.diagram.Task.{Task}
use Rattle.dbp_plan.specs.declared.limits.TheConstants.{MAX_OCCURRENCES}
use Rattle.dbp_plan.specs.declared.table.Table.{Table}
use Rattle.dbp_plan.specs.Table.{HasRow}
use Rattle.trace_io.specs.Lines.{numbered_line}

-- each of the named tasks is there, stands once, and has a row for its next occurrence
pub record CanPrint (tasks : List Task) (table : Table) (counts named : List ℕ) : Type 0 where
  pub places : length counts ≡ length tasks
  pub few : All (λ n. n ≤ MAX_OCCURRENCES) counts
  pub in_order : IsStrictlyIncreasing named
  pub there : All (λ i. i < length tasks) named
  pub rows : All (λ i. HasRow table i (slice_index counts i + 1)) named

-- the lines of the named tasks' next occurrences
abbrev pub numbered_lines : List Task → Table → ℕ → List ℕ → List ℕ → List ℕ
numbered_lines tasks table time counts named = flat_map (λ i. numbered_line tasks table time i (slice_index counts i + 1)) named

-- each of the named tasks is counted once more
pub record Counts (before after named : List ℕ) : Type 0 where
  pub places : length after ≡ length before
  pub each : (i : ℕ) → i < length before → slice_index after i ≡ slice_index before i + (if list_any (λ n. n == i) named then 1 else 0)
