-- The bounds of a diagram's tasks, why there are none, and what they promise.
use Rattle.std.specs.Prelude.{◌≡◌, ◌≢◌, ℕ, Bool, not, ◌||◌, is_some, Option, Some, List, length, slice_get}
use Rattle.std.specs.List.{position}
use Rattle.std.specs.Option.{option_map}
use Rattle.dbp_plan.specs.declared.diagram.Diagram.{Diagram}
use Rattle.dbp_plan.specs.declared.diagram.ServedBy.{ServedBy}
use Rattle.dbp_plan.specs.declared.diagram.ServedBy.TheVariants.{Rank, Deadline}
use Rattle.dbp_plan.specs.declared.diagram.Task.{Task}
use Rattle.dbp_plan.specs.declared.plan.Plan.{Plan}
use Rattle.dbp_plan.specs.Policies.{served_by}
use Rattle.rank_order.specs.Ends.{NoOverrun}
use Rattle.rank_order.specs.Service.{left_of}
use Rattle.rank_order.specs.ServiceOf.{service}
use Rattle.rta_check.specs.declared.bound.Bound.{Bound}
use Rattle.rta_check.specs.declared.bound.Bound.TheVariants.{At, Beyond}
use Rattle.rta_check.specs.declared.fail.RtaFail.{RtaFail}
use Rattle.rta_check.specs.declared.fail.RtaFail.TheVariants.{NotFixed, NotPeriodic, NoMemory}
use Rattle.rta_check.specs.Periods.{is_periodic}
use Rattle.rta_check.specs.Responses.{IsBound, KeepsBound}

-- one bound for each task
pub record AreBounds (d : Diagram) (bounds : List Bound) : Type 0 where
  pub count : length bounds ≡ length d.tasks
  pub each : (i : ℕ) (b : Bound) → slice_get bounds i ≡ Some b → IsBound d i b

-- the plan keeps each bound, and it has no overrun if no task is beyond its period
pub record KeepsBounds (bounds : List Bound) (p : Plan) : Type 0 where
  pub each : (i r : ℕ) → slice_get bounds i ≡ Some (At r) → KeepsBound p i r
  pub no_overrun : ((i : ℕ) → slice_get bounds i ≢ Some Beyond) → NoOverrun p (left_of p (service p))

-- whether the task is on an event, or occurs only where an input isn't 0
abbrev pub is_aperiodic : Task → Bool
is_aperiodic t = not (is_periodic t.clock) || is_some t.when

-- why a diagram served in this way has no bounds, if this is the first of its tasks that is aperiodic
abbrev pub fault_under : ServedBy → Option ℕ → Option RtaFail
fault_under Deadline task = Some NotFixed
fault_under Rank task = option_map NotPeriodic task

-- why the diagram has no bounds: service by deadline comes before tasks that are aperiodic
abbrev pub rta_fault : Diagram → Option RtaFail
rta_fault d = fault_under (served_by d.policy) (position is_aperiodic d.tasks)

-- this is why it has none; out of memory says nothing
abbrev pub IsRtaFail : Diagram → RtaFail → Type 0
IsRtaFail d NotFixed = rta_fault d ≡ Some NotFixed
IsRtaFail d (NotPeriodic task) = rta_fault d ≡ Some (NotPeriodic task)
IsRtaFail d NoMemory = Unit {0}
