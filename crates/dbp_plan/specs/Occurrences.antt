-- When a task occurs, and how often until a time.
use Rattle.std.specs.Prelude.{ℕ, ◌-◌, Bool, List, filter, map, count_by, nat_le, length, slice_index_or, sum_by}
use Rattle.dbp_plan.specs.declared.schedule.Batch.{Batch}
use Rattle.dbp_plan.specs.Numbers.{is_in}

-- whether the batch names the task
abbrev pub names : ℕ → Batch → Bool
names task batch = is_in batch.tasks task

-- the times of the batches that name the task, in order: instance n occurs at place n - 1
abbrev pub times_of : List Batch → ℕ → List ℕ
times_of batches task = map (λ b. b.time) (filter (names task) batches)

-- the time of the task's instance, counted from 1
abbrev pub time_of : List Batch → ℕ → ℕ → ℕ
time_of batches task n = slice_index_or (times_of batches task) (n - 1) 0

-- how many of the times are at or before this one
abbrev pub count_until : List ℕ → ℕ → ℕ
count_until times time = count_by (λ t. nat_le t time) times

-- the occurrences of all tasks together
abbrev pub occurrence_count : List Batch → ℕ
occurrence_count batches = sum_by (λ b. length b.tasks) batches
