-- Why a task has no scenario.
use Rattle.std.specs.Prelude.{◌≡◌, ℕ, ◌==◌, ◌||◌, if◌then◌else◌, Bool, true, false, is_some, nat_lt, length, take, Option, Some, None}
use Rattle.std.specs.List.{find, list_any, position, range_with_len}
use Rattle.dbp_plan.specs.declared.diagram.Clock.{Clock}
use Rattle.dbp_plan.specs.declared.diagram.Clock.TheVariants.{Every, On}
use Rattle.dbp_plan.specs.declared.diagram.Diagram.{Diagram}
use Rattle.dbp_plan.specs.declared.diagram.ServedBy.{ServedBy}
use Rattle.dbp_plan.specs.declared.diagram.ServedBy.TheVariants.{Rank, Deadline}
use Rattle.dbp_plan.specs.declared.diagram.Task.{Task}
use Rattle.dbp_plan.specs.declared.limits.TheConstants.{MAX_TIME}
use Rattle.dbp_plan.specs.Lookups.{task_at}
use Rattle.dbp_plan.specs.Policies.{served_by}
use Rattle.slot_need.specs.declared.fail.NeedFail.{NeedFail}
use Rattle.slot_need.specs.declared.fail.NeedFail.TheVariants.{NotFixed, NotOnEvents, SharedEvent, TooLong, NoMemory}
use Rattle.slot_need.specs.Scenarios.{scenario_end}

abbrev pub is_periodic : Clock → Bool
is_periodic (Every period offset) = true
is_periodic (On event) = false

-- whether the task is periodic, or occurs only where an input isn't 0
abbrev pub is_off_events : Task → Bool
is_off_events t = is_periodic t.clock || is_some t.when

abbrev pub is_same_event : Clock → Clock → Bool
is_same_event (On a) (On b) = a == b
is_same_event _ _ = false

-- whether task i is on the event of an earlier one
abbrev pub is_sharing : Diagram → ℕ → Bool
is_sharing d i = list_any (λ t. is_same_event t.clock (task_at d i).clock) (take i d.tasks)

-- an end that is past the greatest time
abbrev pub length_fault : ℕ → Option NeedFail
length_fault end = if nat_lt MAX_TIME end then Some (TooLong end) else None

-- if this is the first task that shares an event
abbrev pub sharing_fault : Option ℕ → ℕ → Option NeedFail
sharing_fault (Some task) end = Some (SharedEvent task)
sharing_fault None end = length_fault end

-- if this is the first task off events
abbrev pub event_fault : Option ℕ → Option ℕ → ℕ → Option NeedFail
event_fault (Some task) shared end = Some (NotOnEvents task)
event_fault None shared end = sharing_fault shared end

abbrev pub fault_under : ServedBy → Option ℕ → Option ℕ → ℕ → Option NeedFail
fault_under Deadline off shared end = Some NotFixed
fault_under Rank off shared end = event_fault off shared end

-- why task w has no scenario: service by deadline comes before tasks off events, these before events that are shared, and these before the end
abbrev pub need_fault : Diagram → ℕ → Option NeedFail
need_fault d w = fault_under (served_by d.policy) (position is_off_events d.tasks) (find (is_sharing d) (range_with_len 0 (length d.tasks))) (scenario_end d w)

-- this is why it has none; out of memory says nothing
abbrev pub IsNeedFail : Diagram → ℕ → NeedFail → Type 0
IsNeedFail d w NotFixed = need_fault d w ≡ Some NotFixed
IsNeedFail d w (NotOnEvents task) = need_fault d w ≡ Some (NotOnEvents task)
IsNeedFail d w (SharedEvent task) = need_fault d w ≡ Some (SharedEvent task)
IsNeedFail d w (TooLong until) = need_fault d w ≡ Some (TooLong until)
IsNeedFail d w NoMemory = Unit {0}
