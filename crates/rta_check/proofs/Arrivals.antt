-- How much a periodic task above another asks for in a window of r ticks: for as many instances as fit, a period apart.
use Rattle.std.proofs.Common.{◌≡◌, ℕ, zero, suc, ◌+◌, ◌*◌, ◌<◌, ◌≤◌, true, false, length, refl, subst, inl, inr, arith, mul-le-mul_right}
use Rattle.std.specs.Prelude.{sum_by}
use Rattle.std.proofs.lemmas.Bool.{cases_lt}
use Rattle.std.proofs.lemmas.Grind.{div_ceil_times}
use Rattle.std.proofs.lemmas.List.Sums.{sum_by-cons}
use Rattle.dbp_plan.specs.declared.diagram.Clock.TheVariants.{Every}
use Rattle.dbp_plan.specs.declared.plan.Plan.{Plan}
use Rattle.dbp_plan.specs.Lookups.{declared_task}
use Rattle.dbp_plan.specs.Occurrences.{time_of, times_of}
use Rattle.dbp_plan.proofs.ClockTimes.{a_period_apart}
use Rattle.rank_order.specs.Instances.{Instance}
use Rattle.rank_order.specs.ServiceOf.{instances_of}
use Rattle.rank_order.proofs.Work.{asked, asked_after, asked_before, asked_lower, is_above}
use Rattle.rta_check.specs.Requests.{div_ceil}
use Rattle.rta_check.proofs.Ceilings.{at_most, one_more}

-- of the first m instances of task j some are released within the r ticks from b on: they ask for their costs, as many periods fit before a next release, and they begin within the window
record Arrivals (p : Plan) (i j period b r m : ℕ) : Type 0 where
  count : ℕ
  demand : sum_by (asked p i (b + r)) (instances_of j m) ≡ sum_by (asked p i b) (instances_of j m) + count * (declared_task p j).cost
  spread : (v : ℕ) → (1 ≤ m → time_of p.batches j m + period ≤ v) → 1 ≤ count → count * period + b ≤ v
  fit : count * period < r + period

module _ (p : Plan) (i j period b r : ℕ) (some : 1 ≤ r) where
  -- the next instance is released before or after the window
  outside : (m cost : ℕ) → Arrivals p i j period b r m → (1 ≤ m → time_of p.batches j m + period ≤ time_of p.batches j (suc m))
      → asked p i (b + r) (record { task = j; number = suc m }) ≡ cost → asked p i b (record { task = j; number = suc m }) ≡ cost → Arrivals p i j period b r (suc m)
  outside m cost before gap late early = record {
    count = before.count;
    demand =
        let x : Instance = record { task = j; number = suc m } in
        omega (arith, before.demand, late, early, sum_by-cons (asked p i (b + r)) x (instances_of j m), sum_by-cons (asked p i b) x (instances_of j m));
    spread = λ v last some_come.
        let here = before.spread (time_of p.batches j (suc m)) gap some_come in
        let next = last (omega arith) in
        omega (arith, here, next);
    fit = before.fit;
  }

  -- or in it
  inside : (m : ℕ) → Arrivals p i j period b r m → (1 ≤ m → time_of p.batches j m + period ≤ time_of p.batches j (suc m))
      → asked p i (b + r) (record { task = j; number = suc m }) ≡ (declared_task p j).cost → asked p i b (record { task = j; number = suc m }) ≡ 0
      → b ≤ time_of p.batches j (suc m) → time_of p.batches j (suc m) < b + r → Arrivals p i j period b r (suc m)
  inside m before gap late early from to = record {
    count = before.count + 1;
    demand =
        let x : Instance = record { task = j; number = suc m } in
        omega (arith, before.demand, late, early, one_more before.count (declared_task p j).cost, sum_by-cons (asked p i (b + r)) x (instances_of j m), sum_by-cons (asked p i b) x (instances_of j m));
    spread = λ v last some_come.
        let next = last (omega arith) in
        omega (arith, near, next, from, one_more before.count period);
    fit = omega (arith, near, to, some, one_more before.count period);
  }
    where
      near : before.count * period + b ≤ time_of p.batches j (suc m)
      near = elim (cases_lt 0 before.count) [
        | inl some_come ↦ before.spread (time_of p.batches j (suc m)) gap some_come
        | inr none ↦ let zero_is : before.count * period ≤ 0 * period = mul-le-mul_right period none in omega (arith, zero_is, from)
      ]

module _ (p : Plan) (i j period offset b r : ℕ) (named : j < length p.diagram.tasks) (clock : (declared_task p j).clock ≡ Every period offset)
    (higher : is_above p j i ≡ true) (some : 1 ≤ r) where
  arrivals : (m : ℕ) → m ≤ length (times_of p.batches j) → Arrivals p i j period b r m
  arrivals zero le = record { count = 0; demand = omega arith; spread = λ v last some_come. absurd (omega (arith, some_come)); fit = omega (arith, some) }
  arrivals (suc m) le =
      let x : Instance = record { task = j; number = suc m } in
      let t = time_of p.batches j (suc m) in
      let before = arrivals m (omega (arith, le)) in
      let next : m + 1 ≡ suc m = omega arith in
      let gap : 1 ≤ m → time_of p.batches j m + period ≤ t = λ from_one.
      subst (λ (n : ℕ). time_of p.batches j m + period ≤ time_of p.batches j n) next (a_period_apart p j period offset m named clock from_one (omega (arith, le))) in
      elim (cases_lt t b) [
        | inl early ↦ outside p i j period b r some m (declared_task p j).cost before gap (asked_before p i (b + r) x higher (omega (arith, early))) (asked_before p i b x higher early)
        | inr from ↦ elim (cases_lt t (b + r)) [
          | inl to ↦ inside p i j period b r some m before gap (asked_before p i (b + r) x higher to) (asked_after p i b x from) from to
          | inr late ↦ outside p i j period b r some m 0 before gap (asked_after p i (b + r) x late) (asked_after p i b x from)
        ]
      ]

  -- a task above i asks for its request at most
  pub asked_within : (m : ℕ) → 1 ≤ period → m ≤ length (times_of p.batches j)
      → sum_by (asked p i (b + r)) (instances_of j m) ≤ sum_by (asked p i b) (instances_of j m) + div_ceil r period * (declared_task p j).cost
  asked_within m some_period le =
      let a = arrivals m le in
      let few : a.count ≤ div_ceil r period = at_most (div_ceil r period) a.count r period (div_ceil_times r period some_period).0 a.fit in
      let costs : a.count * (declared_task p j).cost ≤ div_ceil r period * (declared_task p j).cost = mul-le-mul_right (declared_task p j).cost few in
      omega (arith, a.demand, costs)

-- and any other task for nothing
pub none_asked : (p : Plan) (i j t m : ℕ) → is_above p j i ≡ false → sum_by (asked p i t) (instances_of j m) ≡ 0
none_asked p i j t zero lower = refl
none_asked p i j t (suc m) lower =
    let x : Instance = record { task = j; number = suc m } in
    omega (arith, sum_by-cons (asked p i t) x (instances_of j m), asked_lower p i t x lower, none_asked p i j t m lower)
