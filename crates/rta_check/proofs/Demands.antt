-- In a window of r ticks all tasks above a task ask for at most its request bound less its own cost.
use Rattle.std.proofs.Common.{◌≡◌, ℕ, zero, suc, ◌+◌, ◌<◌, ◌≤◌, true, [], length, refl, ap, inl, inr, arith}
use Rattle.std.specs.Prelude.{if◌then◌else◌, sum_by}
use Rattle.std.specs.List.{range_with_len}
use Rattle.std.proofs.lemmas.Bool.{cases_Bool}
use Rattle.std.proofs.lemmas.List.Sums.{sum_by-append, sum_by-cons}
use Rattle.dbp_plan.specs.declared.diagram.Clock.{Clock}
use Rattle.dbp_plan.specs.declared.diagram.Clock.TheVariants.{Every, On}
use Rattle.dbp_plan.specs.declared.plan.Plan.{Plan}
use Rattle.dbp_plan.specs.Lookups.{declared_task, no_declared_task}
use Rattle.dbp_plan.specs.Occurrences.{times_of}
use Rattle.rank_order.specs.ServiceOf.{instances_below, instances_of}
use Rattle.rank_order.proofs.Work.{asked, demand}
use Rattle.rta_check.specs.Periods.{IsPeriodic, is_periodic, period_of}
use Rattle.rta_check.specs.Requests.{is_above, request_of}
use Rattle.rta_check.specs.Responses.{SolvesEquation}
use Rattle.rta_check.proofs.Arrivals.{asked_within, none_asked}

-- one number more
pub sum_more_from : (f : ℕ → ℕ) (a n : ℕ) → sum_by f (range_with_len a (suc n)) ≡ sum_by f (range_with_len a n) + f (a + n)
sum_more_from f a zero =
    let same : a ≡ a + 0 = omega arith in
    omega (arith, sum_by-cons f a [], ap f same)
sum_more_from f a (suc n) =
    let same : a + 1 + n ≡ a + suc n = omega arith in
    omega (arith, sum_by-cons f a (range_with_len (a + 1) (suc n)), sum_by-cons f a (range_with_len (a + 1) n), sum_more_from f (a + 1) n, ap f same)

-- a clock with a period
pub clock_of : (c : Clock) → is_periodic c ≡ true → (offset : ℕ) × (c ≡ Every (period_of c) offset)
clock_of (Every period offset) is = (offset, refl)
clock_of (On event) is = absurd (cc (is))

module _ (p : Plan) (periodic : IsPeriodic p.diagram) (i b r : ℕ) (some : 1 ≤ r) where
  -- what task j asks for, if it is above i
  abbrev request : ℕ → ℕ
  request j = if is_above p.diagram j i then request_of p.diagram r j else 0

  task_asks : (j : ℕ) → j < length p.diagram.tasks
      → sum_by (asked p i (b + r)) (instances_of j (length (times_of p.batches j))) ≤ sum_by (asked p i b) (instances_of j (length (times_of p.batches j))) + request j
  task_asks j named = elim (cases_Bool (is_above p.diagram j i)) [
    | inl higher ↦
        let t = declared_task p j in
        let (offset, clock) = clock_of t.clock (periodic j no_declared_task named) in
        let some_period : 1 ≤ period_of t.clock = ((p.rules.ranked.closed.each j no_declared_task named).periodic (period_of t.clock) offset clock).0 in
        rw higher (asked_within p i j (period_of t.clock) offset b r named clock higher some (length (times_of p.batches j)) some_period (omega arith))
    | inr lower ↦
        rw lower (omega (arith, none_asked p i j (b + r) (length (times_of p.batches j)) lower))
  ]

  tasks_ask : (n : ℕ) → n ≤ length p.diagram.tasks
      → sum_by (asked p i (b + r)) (instances_below p n) ≤ sum_by (asked p i b) (instances_below p n) + sum_by request (range_with_len 0 n)
  tasks_ask zero le = omega arith
  tasks_ask (suc j) le =
      let own = instances_of j (length (times_of p.batches j)) in
      let same : 0 + j ≡ j = omega arith in
      omega (
        arith,
        task_asks j le,
        tasks_ask j (omega (arith, le)),
        sum_by-append (asked p i (b + r)) own (instances_below p j),
        sum_by-append (asked p i b) own (instances_below p j),
        sum_more_from request 0 j,
        ap request same,
      )

-- if r is a response time
pub demand_within : (p : Plan) → IsPeriodic p.diagram → (i b r : ℕ) → SolvesEquation p.diagram i r → demand p i (b + r) + (declared_task p i).cost ≤ demand p i b + r
unfolding demand
demand_within p periodic i b r solves = omega (arith, solves.equal, tasks_ask p periodic i b r solves.some (length p.diagram.tasks) (omega arith))
