-- A plan's rules, said of what stands at an index.
use Rattle.std.proofs.Common.{◌≢◌, ℕ, suc, ◌∷◌, ◌<◌, ◌≤◌, All, List, [], length, get_or, arith}
use Rattle.std.proofs.lemmas.List.{get_or_default}
use Rattle.std.proofs.lemmas.List.Kept.{AllPairs-from_increasing}
use Rattle.std.proofs.lemmas.List.Sums.{sum_by-cons}
use Rattle.dbp_plan.specs.declared.plan.Plan.{Plan}
use Rattle.dbp_plan.specs.declared.schedule.Batch.{Batch}
use Rattle.dbp_plan.specs.Lookups.{declared_task, no_declared_task}
use Rattle.dbp_plan.specs.Closed.{IsClosedTask}
use Rattle.dbp_plan.specs.Occurrences.{occurrence_count}
use Rattle.dbp_plan.proofs.BatchTasks.{some_item}
use Rattle.dbp_plan.proofs.Numbers.{rise}

module _ (P : Plan) where
  -- a batch comes before each later one
  pub rising : (j k : ℕ) (b c : Batch) → j < k → k < length P.batches → (get_or P.batches j b).time < (get_or P.batches k c).time
  rising j k b c less inside =
      let pair = (rise P.batches P.rules.rising).pairs j k b less inside in
      rw (get_or_default P.batches k c b inside) pair

  -- each task that is there is closed
  pub closed_task : (i : ℕ) → i < length P.diagram.tasks → IsClosedTask (length P.diagram.inputs) (length P.diagram.events) (length P.diagram.links) (declared_task P i)
  closed_task i inside = P.rules.ranked.closed.each i no_declared_task inside

  -- it takes some ticks
  pub costs : (i : ℕ) → i < length P.diagram.tasks → 0 < (declared_task P i).cost
  costs i inside = let c = (closed_task i inside).cost.0 in omega (arith, c)

  -- and at most so many
  pub small_costs : (i : ℕ) → i < length P.diagram.tasks → (declared_task P i).cost ≤ 1000000000
  small_costs i inside = let c = (closed_task i inside).cost.1 in omega (arith, c)

  -- what a batch names are tasks of the diagram
  pub inside : (k j : ℕ) (b : Batch) → k < length P.batches → j < length (get_or P.batches k b).tasks → get_or (get_or P.batches k b).tasks j 0 < length P.diagram.tasks
  inside k j b kl jl = P.rules.named k b kl j 0 jl

  -- a batch names no task twice
  pub once : (k i j : ℕ) (b : Batch) → k < length P.batches → i < j → j < length (get_or P.batches k b).tasks → get_or (get_or P.batches k b).tasks i 0 ≢ get_or (get_or P.batches k b).tasks j 0
  once k i j b kl less jl same =
      let pair = AllPairs-from_increasing _ (P.rules.in_order k b kl) i j 0 less jl in
      omega (arith, pair, same)

  -- a diagram has at most so many tasks
  pub few_tasks : length P.diagram.tasks ≤ 32
  few_tasks = let c = P.rules.ranked.closed.tasks in omega (arith, c)

  -- there are at most as many batches as occurrences, since each has one
  pub few_batches : length P.batches ≤ 100000
  few_batches = let c = P.rules.few in omega (arith, c, each_some P.batches P.rules.some)
    where
      each_some : (bs : List Batch) → All (λ b. b.tasks ≢ []) bs → length bs ≤ occurrence_count bs
      each_some [] some = omega arith
      each_some (b ∷ bs) some =
          let rest = each_some bs (λ k d lt. some (suc k) d (omega (arith, lt))) in
          let first : 1 ≤ length b.tasks = some_item b.tasks (some 0 b (omega arith)) in
          rw (sum_by-cons (λ (a : Batch). length a.tasks) b bs) (omega (arith, rest, first))

  -- a batch comes below the greatest end
  pub small_times : (k : ℕ) (b : Batch) → k < length P.batches → (get_or P.batches k b).time ≤ 1000000000
  small_times k b kl =
      let e = P.rules.ends k b kl in
      let u = P.rules.ranked.closed.until in
      omega (arith, e, u)
