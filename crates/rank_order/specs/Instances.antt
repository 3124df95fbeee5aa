-- The instances of a plan's tasks.
use Rattle.std.specs.Prelude.{ℕ, ◌-◌, ◌<◌, ◌≤◌, length}
use Rattle.dbp_plan.specs.declared.plan.Plan.{Plan}
use Rattle.dbp_plan.specs.Occurrences.{times_of, time_of}

-- an instance of a task, numbered from 1
pub record Instance : Type 0 where
  pub task : ℕ
  pub number : ℕ

-- the plan has the instance: its number is at most the count of the task's occurrences
pub record IsInstance (p : Plan) (x : Instance) : Type 0 where
  pub task : x.task < length p.diagram.tasks
  pub from_one : 1 ≤ x.number
  pub within : x.number ≤ length (times_of p.batches x.task)

-- the tick in which the instance is released
abbrev pub release_of : Plan → Instance → ℕ
release_of p x = time_of p.batches x.task x.number

-- the instance of the task before this one
abbrev pub before_it : Instance → Instance
before_it x = record { task = x.task; number = x.number - 1 }
