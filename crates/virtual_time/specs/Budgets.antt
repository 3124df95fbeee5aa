-- How many steps a simulation makes at most.
use Rattle.std.specs.Prelude.{ℕ, zero, suc, ◌+◌, ◌-◌, ◌*◌, ◌==◌, ◌||◌, if◌then◌else◌, nat_lt, count_by, List, [], length, slice_index, slice_index_or}
use Rattle.dbp_plan.specs.declared.plan.Plan.{Plan}
use Rattle.dbp_plan.specs.Lookups.{declared_task}

-- how many reads the task makes before it was served so many ticks
abbrev pub early_reads : Plan → ℕ → ℕ → ℕ
early_reads p i served = count_by (λ r. nat_lt r.at served) (declared_task p i).reads

-- how many steps the task's last released instance has made, of which this is left; at most
abbrev pub step_bound : Plan → ℕ → ℕ → ℕ
step_bound p i rest =
    if (rest == 0) || (rest == (declared_task p i).cost) then 0
    else 130 + 2 * early_reads p i ((declared_task p i).cost - rest)

-- and how many all instances of the first n tasks have made, if this is the bound of each task's last one
abbrev pub steps_by : (ℕ → ℕ) → List (List ℕ) → ℕ → ℕ
steps_by bound ends zero = 0
steps_by bound ends (suc n) = steps_by bound ends n + (173 * length (slice_index_or ends n []) + bound n)

abbrev pub steps_below : Plan → List ℕ → List (List ℕ) → ℕ → ℕ
steps_below p rest ends n = steps_by (λ i. step_bound p i (slice_index rest i)) ends n
