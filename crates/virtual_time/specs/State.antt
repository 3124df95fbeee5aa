-- The state of a simulation, after the first b batches. Each processor has come to a time of its own.
use Rattle.std.specs.Prelude.{◌≡◌, ◌≢◌, ℕ, zero, suc, ◌+◌, ◌-◌, ◌<◌, ◌≤◌, true, false, List, [], length, take, slice_index, slice_index_or, Option, Some}
use Rattle.dbp_plan.specs.declared.plan.Plan.{Plan}
use Rattle.dbp_plan.specs.declared.schedule.Batch.{Batch}
use Rattle.dbp_plan.specs.Occurrences.{names, times_of}
use Rattle.dbp_plan.specs.Lookups.{declared_task}
use Rattle.rank_order.specs.Instances.{Instance, IsInstance, before_it, release_of}
use Rattle.rank_order.specs.Service.{left_of}

-- the releases of the task in the first b batches
abbrev pub release_count : List Batch → ℕ → ℕ → ℕ
release_count bs b i = length (times_of (take b bs) i)

abbrev pub instance : ℕ → ℕ → Instance
instance i n = record { task = i; number = n }

-- whether an instance is under way
abbrev pub busy_count : ℕ → ℕ
busy_count zero = 0
busy_count (suc n) = 1

-- x was served to its end, which is e
pub record EndsAt (P : Plan) (serve : ℕ → Option Instance) (x : Instance) (e : ℕ) : Type 0 where
  pub above : 0 < e
  pub last : serve (e - 1) ≡ Some x
  pub done : left_of P serve x e ≡ 0

-- what is left of an instance at t, by the service of its task's processor
abbrev pub left_by : Plan → (ℕ → ℕ) → (ℕ → ℕ → Option Instance) → Instance → ℕ → ℕ
left_by P on serve x t = left_of P (serve (on x.task)) x t

-- rest is what each task's latest instance still needs, ends are the ends of the earlier ones. The task i is on the processor
-- on i, which serves by serve (on i), and each processor c has come to now c
pub record IsSimulatedTo (P : Plan) (on : ℕ → ℕ) (serve : ℕ → ℕ → Option Instance) (b : ℕ) (now : ℕ → ℕ)
    (rest : List ℕ) (ends : List (List ℕ)) : Type 0 where
  pub rests : length rest ≡ length P.diagram.tasks
  pub lists : length ends ≡ length P.diagram.tasks
  pub counts : (i : ℕ) → i < length P.diagram.tasks
      → length (slice_index_or ends i []) + busy_count (slice_index rest i)
      ≡ release_count P.batches b i
  pub ended : (i k : ℕ) → i < length P.diagram.tasks → k < length (slice_index_or ends i [])
      → EndsAt P (serve (on i)) (instance i (k + 1)) (slice_index (slice_index_or ends i []) k)
  pub past : (i k : ℕ) → i < length P.diagram.tasks → k < length (slice_index_or ends i [])
      → slice_index (slice_index_or ends i []) k ≤ now (on i)
  pub under : (i : ℕ) → i < length P.diagram.tasks → 0 < slice_index rest i
      → slice_index rest i ≡ left_of P (serve (on i)) (instance i (release_count P.batches b i)) (now (on i))
  pub early : (c k : ℕ) (d : Batch) → k < b → k < length P.batches
      → (slice_index_or P.batches k d).time ≤ now c
  pub in_time : (x : Instance) → IsInstance P x → 2 ≤ x.number
      → x.number ≤ release_count P.batches b x.task
      → left_by P on serve (before_it x) (release_of P x) ≡ 0

-- the processor has gone on for d ticks, and no other one that has a task; none has gone back
pub record GoesOn (on : ℕ → ℕ) (c d : ℕ) (now later : ℕ → ℕ) : Type 0 where
  pub own : later c ≡ now c + d
  pub others : (i : ℕ) → on i ≢ c → later (on i) ≡ now (on i)
  pub up : (k : ℕ) → now k ≤ later k

-- no batch from the b-th on is before the limit
pub record NoBatchBefore (P : Plan) (b limit : ℕ) : Type 0 where
  pub later : (k : ℕ) (d : Batch) → b ≤ k → k < length P.batches
      → limit ≤ (slice_index_or P.batches k d).time

-- the list with the item i set to v
pub record Sets {X : Type 0} (d : X) (xs : List X) (i : ℕ) (v : X) (ys : List X) : Type 0 where
  pub long : length ys ≡ length xs
  pub same : slice_index_or ys i d ≡ v
  pub others : (j : ℕ) → j ≢ i → slice_index_or ys j d ≡ slice_index_or xs j d

-- what is left after the release of the batch: of its tasks their costs, of the others what was left
pub record Renewed (P : Plan) (batch : Batch) (rest rest' : List ℕ) : Type 0 where
  pub long : length rest' ≡ length rest
  pub named : (i : ℕ) → names i batch ≡ true → slice_index rest' i ≡ (declared_task P i).cost
  pub others : (i : ℕ) → names i batch ≡ false → slice_index rest' i ≡ slice_index rest i
