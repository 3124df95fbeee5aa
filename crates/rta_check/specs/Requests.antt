-- The request bound: what a task and the tasks above it ask for, at most.
use Rattle.std.specs.Prelude.{ℕ, ◌+◌, ◌*◌, ◌/◌, ◌%◌, min, Bool, if◌then◌else◌, nat_lt, length, slice_index, sum_by}
use Rattle.std.specs.List.{range_with_len}
use Rattle.dbp_plan.specs.declared.diagram.Diagram.{Diagram}
use Rattle.dbp_plan.specs.Lookups.{task_at}
use Rattle.rta_check.specs.Periods.{period_of}

-- a / b, rounded up
abbrev pub div_ceil : ℕ → ℕ → ℕ
div_ceil a b = a / b + min 1 (a % b)

-- whether task j is ranked above task i
abbrev pub is_above : Diagram → ℕ → ℕ → Bool
is_above d j i = nat_lt (slice_index d.ranks j) (slice_index d.ranks i)

-- what the instances of task j that are released within r ticks ask for, at most
abbrev pub request_of : Diagram → ℕ → ℕ → ℕ
request_of d r j = div_ceil r (period_of (task_at d j).clock) * (task_at d j).cost

-- the cost of task i, and what the tasks above it ask for within r ticks
abbrev pub request_bound : Diagram → ℕ → ℕ → ℕ
request_bound d i r = (task_at d i).cost + sum_by (λ j. if is_above d j i then request_of d r j else 0) (range_with_len 0 (length d.tasks))
