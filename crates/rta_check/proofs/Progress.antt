-- If the earlier instances of its task are finished at its release, each later tick serves an instance or a task above its own, as long as something is left of it.
use Rattle.std.proofs.Common.{◌≡◌, ℕ, zero, suc, ◌+◌, ◌-◌, ◌<◌, ◌≤◌, ◌⊎◌, Option, Some, refl, ap, ◌∙◌, subst, inl, inr, arith, slice_index}
use Rattle.std.proofs.lemmas.Bool.{cases_lt, lt-ltb}
use Rattle.dbp_plan.specs.declared.plan.Plan.{Plan}
use Rattle.dbp_plan.specs.Occurrences.{time_of}
use Rattle.rank_order.specs.Instances.{Instance, IsInstance, release_of}
use Rattle.rank_order.specs.Order.{ServesByRank}
use Rattle.rank_order.specs.Service.{GoesBefore, IsService, Waits, left_of, served_ticks}
use Rattle.rank_order.proofs.BusyPeriods.{by_rank}
use Rattle.rank_order.proofs.Choices.{same_instance, tick_of, tick_own}
use Rattle.rank_order.proofs.InstanceEnds.{served_first}
use Rattle.rank_order.proofs.OneService.{serves_waiting}
use Rattle.rank_order.proofs.PlanNumbers.{one-task, releases-rise}
use Rattle.rank_order.proofs.ServedTicks.{left_falls, served_next, unserved_after}
use Rattle.rank_order.proofs.Work.{work, work_grows, work_next}

-- of two instances of a task the one that is released first has the smaller number
earlier_number : (p : Plan) (i m n : ℕ) → IsInstance p (record { task = i; number = m }) → IsInstance p (record { task = i; number = n }) → time_of p.batches i m < time_of p.batches i n → m < n
earlier_number p i m n first second before = elim (cases_lt m n) [
  | inl less ↦ less
  | inr not_less ↦ elim (cases_lt n m) [
    | inl more ↦ absurd (omega (arith, before, releases-rise p i n m second.from_one more first.within))
    | inr no_more ↦ let same : m ≡ n = omega (arith, not_less, no_more) in absurd (omega (arith, before, ap (time_of p.batches i) same))
  ]
]

module _ (p : Plan) (serve : ℕ → Option Instance) (service : IsService p serve) (ranked : ServesByRank p.diagram) (i n : ℕ)
    (is : IsInstance p (record { task = i; number = n }))
    (earlier : (m : ℕ) → 1 ≤ m → m < n → left_of p serve (record { task = i; number = m }) (time_of p.batches i n) ≡ 0) where
  abbrev own : Instance
  own = record { task = i; number = n }

  abbrev release : ℕ
  release = time_of p.batches i n

  -- at u nothing is left of it, or each tick since its release was served to it or to a task above
  abbrev HasProgress : ℕ → Type 0
  HasProgress u = (left_of p serve own u ≡ 0) ⊎ (work p serve i release + (u - release) ≤ served_ticks serve own u + work p serve i u)

  -- an instance of the same task that goes before it is an earlier one, and finished
  none_between : (u : ℕ) (z : Instance) → release ≤ u → serve u ≡ Some z → slice_index p.diagram.ranks z.task ≡ slice_index p.diagram.ranks i → release_of p z < release → ⊥
  none_between u z late served rank before =
      let waits : Waits p (left_of p serve) u z = serves_waiting p serve service u z served in
      let task : z.task ≡ i = one-task p.diagram p.rules.ranked z.task i waits.instance.task is.task rank in
      let m = z.number in
      let same : z ≡ record { task = i; number = m } = same_instance z (record { task = i; number = m }) task refl in
      let z_is : IsInstance p (record { task = i; number = m }) = subst (λ (y : Instance). IsInstance p y) same waits.instance in
      let sooner : time_of p.batches i m < time_of p.batches i n = subst (λ (y : Instance). release_of p y < release) same before in
      let less : m < n = earlier_number p i m n z_is is sooner in
      unserved_after p serve (serves_waiting p serve service) (record { task = i; number = m }) release u (earlier m z_is.from_one less) late (served ∙ ap Some same)

  next_tick : (u : ℕ) → release ≤ u → HasProgress u → HasProgress (suc u)
  next_tick u late (inl done) = inl (omega (arith, done, left_falls p serve own u (suc u) (omega arith)))
  next_tick u late (inr served) = elim (cases_lt 0 (left_of p serve own u)) [
    | inr none ↦ inl (omega (arith, none, left_falls p serve own u (suc u) (omega arith)))
    | inl some ↦
        let waits : Waits p (left_of p serve) u own = record { instance = is; released = late; unfinished = some } in
        let (z, now, first) = served_first p serve service u own waits in
        by_first u late served z now first
  ]
    where
      by_first : (u : ℕ) → release ≤ u → work p serve i release + (u - release) ≤ served_ticks serve own u + work p serve i u
          → (z : Instance) → serve u ≡ Some z → (own ≡ z) ⊎ GoesBefore p z own → HasProgress (suc u)
      by_first u late served z now (inl same) =
          let tick : tick_of own (serve u) ≡ 1 = rw (now, ← same) (tick_own own) in
          inr (omega (arith, late, served, served_next serve own u, tick, work_grows p serve service i u))
      by_first u late served z now (inr before) = elim (by_rank p ranked z own before) [
        | inl rank ↦
            let more = work_next p serve service i u z now (lt-ltb (slice_index p.diagram.ranks z.task) (slice_index p.diagram.ranks i) rank) in
            inr (omega (arith, late, served, more, served_next serve own u))
        | inr tie ↦ absurd (none_between u z late now tie.0 tie.1)
      ]

  progress : (k : ℕ) → HasProgress (release + k)
  progress zero = let same : release ≡ release + 0 = omega arith in subst (λ (u : ℕ). HasProgress u) same (inr (omega arith))
  progress (suc k) =
      let next : suc (release + k) ≡ release + suc k = omega arith in
      subst (λ (u : ℕ). HasProgress u) next (next_tick (release + k) (omega arith) (progress k))

  pub progress_at : (u : ℕ) → release ≤ u → (left_of p serve own u ≡ 0) ⊎ (work p serve i release + (u - release) ≤ served_ticks serve own u + work p serve i u)
  progress_at u late =
      let same : release + (u - release) ≡ u = omega (arith, late) in
      subst (λ (v : ℕ). HasProgress v) same (progress (u - release))
