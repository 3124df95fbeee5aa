-- What a choice stands on, and what it is: for each processor the first of its own in the queue that isn't blocked.
use Rattle.std.specs.Prelude.{◌≡◌, ℕ, ◌+◌, ◌<◌, ◌==◌, ◌&&◌, nat_lt, true, false, Bool, Option, Some, None, slice_index_or, List}
use Rattle.std.specs.Option.{option_map}
use Rattle.dbp_plan.specs.declared.diagram.Link.{Link}
use Rattle.dbp_plan.specs.declared.plan.Plan.{Plan}
use Rattle.dbp_plan.specs.Lookups.{declared_task}
use Rattle.dbp_core.specs.Steppers.{plan_in, state_in}
use Rattle.dbp_core.specs.declared.stepper.Stepper.{Stepper}
use Rattle.instance_steps.specs.Releases.{HasReleased}
use Rattle.rank_order.specs.Instances.{Instance}
use Rattle.rank_order.specs.Queue.{IsAt}
use Rattle.virtual_time.specs.Runs.{IsRun, Processors}
use Rattle.virtual_time.specs.State.{NoBatchBefore, instance, release_count}
use Rattle.virtual_time.specs.declared.run.Run.{Run}
use Rattle.cpu_sim.specs.Processors.{is_blocked, read_number, served_on}
use Rattle.cpu_sim.specs.Services.{services}

-- the plan's processors, each of which has come to a time of its own, and all of which have come to one
abbrev pub cpus_at : Plan → (ℕ → ℕ) → Processors
cpus_at p now = record { on = λ i. (declared_task p i).cpu; serve = services p; now = now }

abbrev pub all_cpus_at : Plan → ℕ → Processors
all_cpus_at p t = cpus_at p (λ c. t)

-- the task's last released instance, if so many batches are released
abbrev pub last_of : Plan → ℕ → ℕ → Instance
last_of p b i = instance i (release_count p.batches b i)

-- A run and a core of the plan have come to the same point: all processors to the time of the run, the core to the batches
-- that the run has released. No further batch is due at this time.
pub record StandTogether (p : Plan) (core : Stepper) (run : Run) : Type 0 where
  pub plan : plan_in core ≡ p
  pub released : HasReleased p (state_in core) run.released
  pub at : IsRun p (all_cpus_at p run.time) run
  pub until : NoBatchBefore p run.released (run.time + 1)

-- the link is direct, and the writer's instance whose row x reads over it is there and has something left
abbrev pub link_blocks : Plan → (Instance → ℕ) → Instance → Link → Bool
link_blocks p served x l =
    let n = read_number p x l.writer in
    (l.delay == 0) && (nat_lt 0 n && nat_lt (served (instance l.writer n)) (declared_task p l.writer).cost)

-- whether the task's last released instance is blocked at the time of the run
abbrev pub is_blocked_in : Plan → Run → ℕ → Bool
is_blocked_in p run i = is_blocked p (served_on p (services p) run.time) (last_of p run.released i)

-- of the first n in the queue this one is the first of the processor that isn't blocked
pub record IsFirstOf (p : Plan) (run : Run) (c n i : ℕ) : Type 0 where
  pub index : ℕ
  pub release : ℕ
  pub before : index < n
  pub at : IsAt run.ready index i release
  pub own : (declared_task p i).cpu ≡ c
  pub free : is_blocked_in p run i ≡ false
  pub others : (k j a : ℕ) → k < index → IsAt run.ready k j a → (declared_task p j).cpu ≡ c
      → is_blocked_in p run j ≡ true

-- the same if there is one; if there is none, all of the processor are blocked
abbrev pub IsFirstFree : Plan → Run → ℕ → ℕ → Option ℕ → Type 0
IsFirstFree p run c n None = (k j a : ℕ) → k < n → IsAt run.ready k j a → (declared_task p j).cpu ≡ c
    → is_blocked_in p run j ≡ true
IsFirstFree p run c n (Some i) = IsFirstOf p run c n i

-- each processor serves the last released instance of the task that is chosen for it, and none if none is
abbrev pub AreChoices : Plan → Run → List (Option ℕ) → Type 0
AreChoices p run chosen = (c : ℕ) → c < 8 → services p c run.time ≡ option_map (last_of p run.released) (slice_index_or chosen c None)
