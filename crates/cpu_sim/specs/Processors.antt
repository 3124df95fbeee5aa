-- Which instances the processors serve in each tick. A task stands on the processor of its `cpu`.
use Rattle.std.specs.Prelude.{◌≡◌, ℕ, ◌==◌, ◌&&◌, Bool, false, nat_lt, Option}
use Rattle.std.specs.List.{list_any}
use Rattle.dbp_plan.specs.declared.diagram.Read.{Read}
use Rattle.dbp_plan.specs.declared.plan.Plan.{Plan}
use Rattle.dbp_plan.specs.Lookups.{declared_task, link_at}
use Rattle.dbp_plan.specs.Occurrences.{count_until, times_of}
use Rattle.rank_order.specs.Instances.{Instance, release_of}
use Rattle.rank_order.specs.Service.{GoesBefore, IsFirst, Waits, left_of, served_ticks}

-- the processor of the instance's task
abbrev pub cpu_of : Plan → Instance → ℕ
cpu_of p x = (declared_task p x.task).cpu

-- ---- blocking

-- the number of the writer's instance whose row a direct read of x takes: its last one at the release of x, 0 if there is none
abbrev pub read_number : Plan → Instance → ℕ → ℕ
read_number p x writer = count_until (times_of p.batches writer) (release_of p x)

-- x has come to this read, which is direct, and the writer's instance for it is there and has something left
abbrev pub read_blocks : Plan → (Instance → ℕ) → Instance → Read → Bool
read_blocks p served x r =
    let l = link_at p.diagram.links r.link in
    let n = read_number p x l.writer in
    (r.at == served x) && ((l.delay == 0) && (nat_lt 0 n && nat_lt (served (record { task = l.writer; number = n })) (declared_task p l.writer).cost))

-- whether a read blocks x, if each instance has been served for so many ticks
abbrev pub is_blocked : Plan → (Instance → ℕ) → Instance → Bool
is_blocked p served x = list_any (read_blocks p served x) (declared_task p x.task).reads

-- ---- service

-- for how many ticks before t each instance was served on its processor
abbrev pub served_on : Plan → (ℕ → ℕ → Option Instance) → ℕ → Instance → ℕ
served_on p serve t x = served_ticks (serve (cpu_of p x)) x t

-- what is left of an instance at t
abbrev pub left_on : Plan → (ℕ → ℕ → Option Instance) → Instance → ℕ → ℕ
left_on p serve x t = left_of p (serve (cpu_of p x)) x t

-- the instance waits, is on this processor, and isn't blocked
pub record MayBeServed (p : Plan) (serve : ℕ → ℕ → Option Instance) (c t : ℕ) (x : Instance) : Type 0 where
  pub waits : Waits p (left_on p serve) t x
  pub own : cpu_of p x ≡ c
  pub free : is_blocked p (served_on p serve t) x ≡ false

-- in each tick each processor serves the first of those that it may serve, and none if there is none
pub record IsServiceOn (p : Plan) (serve : ℕ → ℕ → Option Instance) : Type 0 where
  pub each : (c t : ℕ) → IsFirst (GoesBefore p) (MayBeServed p serve c t) (serve c t)
