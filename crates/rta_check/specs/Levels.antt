-- The level of a task: the task and those ranked above it, in the numbers that its response time depends on.
use Rattle.std.specs.Prelude.{◌≡◌, ℕ, ◌+◌, ◌*◌, ◌≤◌, ◌^◌, All, length, sum_by}
use Rattle.dbp_plan.specs.declared.diagram.Diagram.{Diagram}
use Rattle.dbp_plan.specs.declared.limits.TheConstants.{MAX_TASKS, MAX_TIME}
use Rattle.dbp_plan.specs.Lookups.{task_at}
use Rattle.rta_check.specs.declared.higher.Higher.{Higher}
use Rattle.rta_check.specs.declared.level.Level.{Level}
use Rattle.rta_check.specs.Periods.{period_of}
use Rattle.rta_check.specs.Requests.{div_ceil, request_bound}

-- the parts of a whole processor
unfoldable pub whole : ℕ
whole = 2 ^ 64

-- the numbers of a higher task are within the limits, and its utilization is at most its cost over its period
pub record IsHigher (h : Higher) : Type 0 where
  pub period : (1 ≤ h.period) × (h.period ≤ MAX_TIME)
  pub cost : h.cost ≤ MAX_TIME
  pub utilization : h.utilization * h.period ≤ h.cost * whole

-- what a higher task asks for within r ticks, at most
abbrev pub higher_request : ℕ → Higher → ℕ
higher_request r h = div_ceil r h.period * h.cost

-- the cost of the level's task, and what the higher tasks ask for within r ticks
abbrev pub level_request : Level → ℕ → ℕ
level_request l r = l.cost + sum_by (higher_request r) l.higher.items

-- the numbers of the level are within the limits
pub record IsLevel (l : Level) : Type 0 where
  pub period : l.period ≤ MAX_TIME
  pub cost : (1 ≤ l.cost) × (l.cost ≤ MAX_TIME)
  pub each : All IsHigher l.higher.items
  pub few : length l.higher.items ≤ MAX_TASKS

-- it is the level of task i
pub record IsLevelOf (d : Diagram) (i : ℕ) (l : Level) : Type 0 where
  pub period : l.period ≡ period_of (task_at d i).clock
  pub requests : (r : ℕ) → level_request l r ≡ request_bound d i r

-- each number of ticks up to the period within which no more than that is asked for, and so each response time, is at least r
abbrev pub IsStart : Level → ℕ → Type 0
IsStart l r = (s : ℕ) → 1 ≤ s → s ≤ l.period → level_request l s ≤ s → r ≤ s
