-- The releases of instances, batch by batch.
use Rattle.std.proofs.Common.{◌≡◌, ℕ, ◌+◌, ◌-◌, ◌<◌, ◌≤◌, true, [], length, get_or, take, arith}
use Rattle.std.proofs.lemmas.Option.{get_or_from_slice_get}
use Rattle.dbp_plan.specs.declared.plan.Plan.{Plan}
use Rattle.dbp_plan.specs.declared.schedule.Batch.{Batch}
use Rattle.dbp_plan.specs.Occurrences.{names, times_of, time_of}
use Rattle.dbp_plan.specs.Times.{times-rise}
use Rattle.dbp_plan.proofs.OccurrenceBatches.{IsOfBatch, batch_of, occurrence_of, time_of-batch}
use Rattle.dbp_plan.proofs.TaskTimes.{come_iff, more-named, some-of}
use Rattle.rank_order.specs.Instances.{Instance, IsInstance, release_of}

-- an instance is released with the batch k
pub record IsReleasedIn (p : Plan) (x : Instance) (k : ℕ) : Type 0 where
  pub batch : IsOfBatch p.batches x.task (x.number - 1) k
  pub time : (d : Batch) → release_of p x ≡ (get_or p.batches k d).time

-- each instance is released with a batch
pub released_in : (p : Plan) (x : Instance) → IsInstance p x → (k : ℕ) × IsReleasedIn p x k
released_in p x is =
    let found = batch_of p.batches x.task (x.number - 1) (omega (arith, is.from_one, is.within)) in
    (found.0, record { batch = found.1; time = λ d. get_or_from_slice_get (times_of p.batches x.task) (x.number - 1) (get_or p.batches found.0 d).time 0 (found.1.time d) })

-- a batch that names a task releases its instance after those of the batches before
pub next_instance : (p : Plan) (task k : ℕ) → task < length p.diagram.tasks → k < length p.batches → ((d : Batch) → names task (get_or p.batches k d) ≡ true)
    → IsInstance p (record { task = task; number = length (times_of (take k p.batches) task) + 1 }) × ((d : Batch) → time_of p.batches task (length (times_of (take k p.batches) task) + 1) ≡ (get_or p.batches k d).time)
next_instance p task k named within there =
    let d : Batch = record { time = 0; tasks = [] } in
    let before = length (times_of (take k p.batches) task) in
    let at = occurrence_of p.batches task k within there in (
      record { task = named; from_one = omega arith; within = omega (arith, more-named p.batches task k d within (there d), some-of p.batches task (k + 1)) },
      λ e. time_of-batch p.batches task before k e at,
    )

-- if exactly the first batches have come, the instances that are released are those of these batches
pub released_by : (p : Plan) (k t : ℕ) (x : Instance) → IsInstance p x
    → ((j : ℕ) (d : Batch) → j < k → j < length p.batches → (get_or p.batches j d).time ≤ t)
    → ((j : ℕ) (d : Batch) → k ≤ j → j < length p.batches → t < (get_or p.batches j d).time)
    → (release_of p x ≤ t → x.number ≤ length (times_of (take k p.batches) x.task)) × (x.number ≤ length (times_of (take k p.batches) x.task) → release_of p x ≤ t)
released_by p k t x is old new =
    let found = released_in p x is in
    let d : Batch = record { time = 0; tasks = [] } in
    let time = found.1.time d in
    let both = come_iff p.batches x.task k t (x.number - 1) (get_or p.batches found.0 d).time (times-rise p.batches x.task p.rules.rising) old new (found.1.batch.time d) in (
      (λ come. omega (arith, both.0 (omega (arith, come, time)), is.from_one)),
      λ less. omega (arith, both.1 (omega (arith, less, is.from_one)), time),
    )
