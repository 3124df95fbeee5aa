-- What a running simulation keeps of time, on any number of processors.
use Rattle.std.specs.Prelude.{◌≡◌, ℕ, ◌+◌, ◌*◌, ◌<◌, ◌≤◌, ◌↔◌, true, List, length, sum, slice_index, Option}
use Rattle.dbp_plan.specs.declared.plan.Plan.{Plan}
use Rattle.dbp_plan.specs.Numbers.{is_in}
use Rattle.rank_order.specs.declared.ready.Ready.{Ready}
use Rattle.virtual_time.specs.declared.run.Run.{Run}
use Rattle.rank_order.specs.Instances.{Instance, release_of}
use Rattle.rank_order.specs.Service.{Ran}
use Rattle.virtual_time.specs.State.{release_count, instance, IsSimulatedTo, NoBatchBefore}
use Rattle.rank_order.specs.Queue.{Holds, MadeFor}

-- the queue holds the instances that are under way
pub record Tracks (P : Plan) (b : ℕ) (rest : List ℕ) (ready : Ready) : Type 0 where
  pub made : MadeFor ready P.diagram
  pub held : (i a : ℕ) → Holds ready i a
      ↔ ((i < length P.diagram.tasks) × (0 < slice_index rest i)
      × (a ≡ release_of P (instance i (release_count P.batches b i))))

-- no work so far takes longer than this
abbrev pub latest : ℕ → ℕ
latest b = 1000000000 + 32000000000 * b

-- the processor of each task, whom each processor serves in each tick, and to which time each has come
pub record Processors : Type 0 where
  pub on : ℕ → ℕ
  pub serve : ℕ → ℕ → Option Instance
  pub now : ℕ → ℕ

-- the same processors, which have come to these times
abbrev pub with_times : Processors → (ℕ → ℕ) → Processors
with_times cpus now = record { on = cpus.on; serve = cpus.serve; now = now }

-- which have all come to this time
abbrev pub all_at : Processors → ℕ → Processors
all_at cpus t = with_times cpus (λ c. t)

-- the task's last released instance alone is served on its processor, for d ticks from the time to which this has come
abbrev pub IsServedFor : Plan → Processors → Run → ℕ → ℕ → Type 0
IsServedFor P cpus r i d = Ran (cpus.serve (cpus.on i)) (instance i (release_count P.batches r.released i)) (cpus.now (cpus.on i)) d

-- the run has what is left and the ends for the times to which the processors have come, and no batch is before its own time
pub record IsRun (P : Plan) (cpus : Processors) (r : Run) : Type 0 where
  pub at : IsSimulatedTo P cpus.on cpus.serve r.released cpus.now r.rest.items r.ends
  pub tracks : Tracks P r.released r.rest.items r.ready
  pub ahead : NoBatchBefore P r.released r.time
  pub bounded : r.time + sum r.rest.items ≤ latest r.released
  pub below : r.released ≤ length P.batches

-- the highest-ranked of these tasks that need something
pub record IsWorst (P : Plan) (tasks : List ℕ) (rest : List ℕ) (i : ℕ) : Type 0 where
  pub small : i < length P.diagram.tasks
  pub named : is_in tasks i ≡ true
  pub late : 0 < slice_index rest i
  pub highest : (j : ℕ) → is_in tasks j ≡ true → 0 < slice_index rest j
      → slice_index P.diagram.ranks i ≤ slice_index P.diagram.ranks j
