-- The service of a plan, tick by tick. `IsService` says what it is; this function shows that there is one.
use Rattle.std.specs.Prelude.{ℕ, zero, suc, ◌+◌, ◌&&◌, nat_lt, nat_le, if◌then◌else◌, Bool, List, [], ◌∷◌, ◌++◌, length, Option, Some, None}
use Rattle.dbp_plan.specs.declared.plan.Plan.{Plan}
use Rattle.dbp_plan.specs.Lookups.{declared_task}
use Rattle.dbp_plan.specs.Occurrences.{times_of}
use Rattle.rank_order.specs.Instances.{Instance, release_of}
use Rattle.rank_order.specs.Order.{goes_before}
use Rattle.rank_order.specs.Service.{is_served}

-- the one of two that goes first
abbrev pub earlier : Plan → Instance → Option Instance → Option Instance
earlier p x None = Some x
earlier p x (Some y) = if goes_before p.diagram x.task (release_of p x) y.task (release_of p y) then Some x else Some y

-- the first of those in the list that pass the test
abbrev pub first_of_those : Plan → (Instance → Bool) → List Instance → Option Instance
first_of_those p test [] = None
first_of_those p test (x ∷ xs) = if test x then earlier p x (first_of_those p test xs) else first_of_those p test xs

-- the first so many instances of the task
abbrev pub instances_of : ℕ → ℕ → List Instance
instances_of task zero = []
instances_of task (suc n) = record { task = task; number = suc n } ∷ instances_of task n

-- the instances of the first so many tasks
abbrev pub instances_below : Plan → ℕ → List Instance
instances_below p zero = []
instances_below p (suc i) = instances_of i (length (times_of p.batches i)) ++ instances_below p i

-- whether the instance waits at t, if this many ticks were given to each
abbrev pub is_waiting : Plan → (Instance → ℕ) → ℕ → Instance → Bool
is_waiting p given t x = nat_le (release_of p x) t && nat_lt (given x) (declared_task p x.task).cost

-- the first of those that wait
abbrev pub choice_of : Plan → (Instance → ℕ) → ℕ → Option Instance
choice_of p given t = first_of_those p (is_waiting p given t) (instances_below p (length p.diagram.tasks))

-- the ticks before t that are given to the instance
unfoldable pub given_before : Plan → ℕ → Instance → ℕ
given_before p zero x = 0
given_before p (suc t) x = given_before p t x + (if is_served x (choice_of p (given_before p t) t) then 1 else 0)

-- the one service of the plan
unfoldable pub service : Plan → ℕ → Option Instance
service p t = choice_of p (given_before p t) t
