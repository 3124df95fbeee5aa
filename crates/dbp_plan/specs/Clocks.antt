-- When a task occurs: the times of its clock, and those of them at which the input of its `when` isn't 0.
use Rattle.std.specs.Prelude.{ℕ, pos, ◌+◌, ◌*◌, if◌then◌else◌, Bool, true, not, nat_lt, List, [], filter, map, slice_get, slice_index_or, Option, Some, None}
use Rattle.std.specs.List.{range_with_len}
use Rattle.std.specs.Ordering.{int_eq}
use Rattle.dbp_plan.specs.declared.diagram.Clock.{Clock}
use Rattle.dbp_plan.specs.declared.diagram.Clock.TheVariants.{Every, On}
use Rattle.dbp_plan.specs.declared.diagram.Input.{Input}
use Rattle.dbp_plan.specs.declared.diagram.Task.{Task}
use Rattle.dbp_plan.specs.declared.schedule.Sample.{Sample}
use Rattle.dbp_plan.specs.Samples.{input_value}

-- ---- the base times of a clock

-- the offset, the offset and one period, the offset and two periods and so on, below `until`; a period is at least 1, so these are all
unfoldable pub periodic_times : ℕ → ℕ → ℕ → List ℕ
periodic_times until period offset = filter (λ t. nat_lt t until) (map (λ k. offset + k * period) (range_with_len 0 until))

-- the times at which the clock ticks, if these are the times of each event
abbrev pub base_times : ℕ → List (List ℕ) → Clock → List ℕ
base_times until events (Every period offset) = periodic_times until period offset
base_times until events (On event) = slice_index_or events event []

-- ---- the times of a task

-- whether the input isn't 0 at the time; it is always so if there is no input
abbrev pub is_on : List Input → List Sample → Option ℕ → ℕ → Bool
is_on inputs samples None time = true
is_on inputs samples (Some input) time = not (int_eq (input_value inputs samples input time) (pos 0))

-- the base times of its clock at which the input of its `when` isn't 0
abbrev pub task_times : ℕ → List Input → List Sample → List (List ℕ) → Task → List ℕ
task_times until inputs samples events t = filter (is_on inputs samples t.when) (base_times until events t.clock)

-- ---- base times by their numbers

-- the base time with this number, from 0, of the clock that begins at the offset and occurs each period, if it is below `until`
abbrev pub periodic_time : ℕ → ℕ → ℕ → ℕ → Option ℕ
periodic_time until period offset k = if nat_lt (offset + k * period) until then Some (offset + k * period) else None

-- the base time with this number, from 0, of the clock, if these are the times of each event
abbrev pub time_at : ℕ → List (List ℕ) → Clock → ℕ → Option ℕ
time_at until events (Every period offset) k = periodic_time until period offset k
time_at until events (On event) k = slice_get (slice_index_or events event []) k
