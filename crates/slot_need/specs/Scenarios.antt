-- The scenario of a task: who fires when. Each reader below the task fires late in a group of firings of its own, so at the
-- last firing each of them still holds rows of its group.
use Rattle.std.specs.Prelude.{ℕ, ◌+◌, ◌-◌, ◌*◌, ◌==◌, ◌&&◌, if◌then◌else◌, Bool, true, false, nat_lt, List, filter, map, length, slice_index, Option, Some, None}
use Rattle.std.specs.List.{list_any, position, range_with_len}
use Rattle.dbp_plan.specs.declared.diagram.Clock.{Clock}
use Rattle.dbp_plan.specs.declared.diagram.Clock.TheVariants.{Every, On}
use Rattle.dbp_plan.specs.declared.diagram.Diagram.{Diagram}
use Rattle.dbp_plan.specs.Lookups.{task_at}
use Rattle.dbp_slots.specs.Slots.{longest_delay}
use Rattle.slot_need.specs.declared.column.Column.{Column}
use Rattle.slot_need.specs.declared.column.Firing.{Firing}
use Rattle.slot_need.specs.declared.column.Firing.TheVariants.{Never, Each, Once}

-- ---- the task, its firings and its readers below

-- whether task i reads task w and is ranked below it
abbrev pub is_lower_reader : Diagram → ℕ → ℕ → Bool
is_lower_reader d w i = nat_lt (slice_index d.ranks w) (slice_index d.ranks i) && list_any (λ l. (l.writer == w) && (l.reader == i)) d.links

-- the readers below task w, each once, by declaration
abbrev pub lower_readers : Diagram → ℕ → List ℕ
lower_readers d w = filter (is_lower_reader d w) (range_with_len 0 (length d.tasks))

-- how many firings are a group: as many rows as matter to a reader with the longest delay
abbrev pub group_size : Diagram → ℕ → ℕ
group_size d w = longest_delay d.links w + 1

-- how often task w fires: a group for each reader, and one more
abbrev pub firing_count : Diagram → ℕ → ℕ
firing_count d w = (length (lower_readers d w) + 1) * group_size d w

-- when the firing with this number is, both from 0: task w fires again as it ends
abbrev pub firing_time : Diagram → ℕ → ℕ → ℕ
firing_time d w k = k * (task_at d w).cost

-- the firing at which the reader with this number fires, both from 0: the last of its group
abbrev pub firing_of_reader : Diagram → ℕ → ℕ → ℕ
firing_of_reader d w j = (j + 1) * group_size d w - 1

abbrev pub last_firing : Diagram → ℕ → ℕ
last_firing d w = firing_time d w (firing_count d w - 1)

-- the tick after the last firing
abbrev pub scenario_end : Diagram → ℕ → ℕ
scenario_end d w = last_firing d w + 1

-- ---- at which firings a task fires, and so its event

abbrev pub firing_at_place : Diagram → ℕ → Option ℕ → Firing
firing_at_place d w None = Never
firing_at_place d w (Some j) = Once (firing_of_reader d w j)

-- task w fires at each, a reader below it once, and all others never
abbrev pub firing_of_task : Diagram → ℕ → ℕ → Firing
firing_of_task d w i = if i == w then Each else firing_at_place d w (position (λ r. r == i) (lower_readers d w))

-- whether the clock is the event
abbrev pub is_on : ℕ → Clock → Bool
is_on event (Every period offset) = false
is_on event (On other) = other == event

abbrev pub firing_of_first : Diagram → ℕ → Option ℕ → Firing
firing_of_first d w None = Never
firing_of_first d w (Some i) = firing_of_task d w i

-- the event occurs when its task fires
abbrev pub firing_of_event : Diagram → ℕ → ℕ → Firing
firing_of_event d w event = firing_of_first d w (position (λ t. is_on event t.clock) d.tasks)

-- whether it is at the firing with this number
abbrev pub fires_at : Firing → ℕ → Bool
fires_at Never k = false
fires_at Each k = true
fires_at (Once at) k = k == at

-- ---- the columns of the trace

abbrev pub is_ever : Firing → Bool
is_ever Never = false
is_ever _ = true

abbrev pub column_of : Diagram → ℕ → ℕ → Column
column_of d w event = record { event = event; firing = firing_of_event d w event }

-- the events that occur, in the order in which they are declared
abbrev pub scenario_columns : Diagram → ℕ → List Column
scenario_columns d w = filter (λ c. is_ever c.firing) (map (column_of d w) (range_with_len 0 (length d.events)))
