-- The service of a plan on its processors, tick by tick. `IsServiceOn` says what it is; this function shows that there is one.
use Rattle.std.specs.Prelude.{ℕ, zero, suc, ◌+◌, ◌==◌, ◌&&◌, not, if◌then◌else◌, Bool, length, Option}
use Rattle.dbp_plan.specs.declared.plan.Plan.{Plan}
use Rattle.rank_order.specs.Instances.{Instance}
use Rattle.rank_order.specs.Service.{is_served}
use Rattle.rank_order.specs.ServiceOf.{first_of_those, instances_below, is_waiting}
use Rattle.cpu_sim.specs.Processors.{cpu_of, is_blocked}

-- whether the processor may serve the instance at t, if this many ticks were given to each
abbrev pub may_serve : Plan → (Instance → ℕ) → ℕ → ℕ → Instance → Bool
may_serve p given c t x = is_waiting p given t x && ((cpu_of p x == c) && not (is_blocked p given x))

-- the first of those that it may serve
abbrev pub choice_on : Plan → (Instance → ℕ) → ℕ → ℕ → Option Instance
choice_on p given c t = first_of_those p (may_serve p given c t) (instances_below p (length p.diagram.tasks))

-- the ticks before t that are given to the instance, by its processor
unfoldable pub given_on : Plan → ℕ → Instance → ℕ
given_on p zero x = 0
given_on p (suc t) x = given_on p t x + (if is_served x (choice_on p (given_on p t) (cpu_of p x) t) then 1 else 0)

-- the one service of the plan on its processors: whom the processor serves in the tick
unfoldable pub services : Plan → ℕ → ℕ → Option Instance
services p c t = choice_on p (given_on p t) c t
