-- The base times of a periodic clock: the one with a number, how many there are, and that two of them are at least a period apart.
use Rattle.std.proofs.Common.{◌≡◌, ℕ, zero, suc, ◌+◌, ◌*◌, ◌-◌, ◌/◌, ◌<◌, ◌≤◌, List, [], ◌∷◌, length, get_or, map, slice_get, Some, None, refl, sym, ap, subst, ◌∙◌, arith, inl, inr}
use Rattle.std.specs.Prelude.{AllPairs, filter, if◌then◌else◌, nat_le, nat_lt}
use Rattle.std.specs.List.{range_with_len}
use Rattle.std.specs.List.Sorted.{IsStrictlyIncreasing}
use Rattle.std.proofs.Math.Nat.{le-div_iff_mul-le, mul-le-mul_left, mul-le-mul_right}
use Rattle.std.proofs.lemmas.Bool.{cases_lt, le-leb, le-ltb, lt-leb, lt-ltb}
use Rattle.std.proofs.lemmas.List.FromFn.{get_or-map-range_with_len, length-map-range_with_len}
use Rattle.std.proofs.lemmas.List.Kept.{AllPairs-filter, IsStrictlyIncreasing-filter}
use Rattle.std.proofs.lemmas.List.Sums.{count_by-le-length, length-filter}
use Rattle.std.proofs.lemmas.Option.{none-some, slice_get-get_or, slice_get_past}
use Rattle.dbp_plan.specs.declared.diagram.Clock.TheVariants.{Every}
use Rattle.dbp_plan.specs.declared.plan.Plan.{Plan}
use Rattle.dbp_plan.specs.Clocks.{is_on, periodic_time, periodic_times}
use Rattle.dbp_plan.specs.Lookups.{declared_task, no_declared_task}
use Rattle.dbp_plan.specs.Occurrences.{time_of, times_of}

module _ (until period offset : ℕ) (some : 1 ≤ period) where
  abbrev tick : ℕ → ℕ
  tick k = offset + k * period

  -- a number later, a period later
  apart : (i j : ℕ) → i < j → tick i + period ≤ tick j
  apart i j less = let more : (i + 1) * period ≤ j * period = mul-le-mul_right period (omega arith) in omega (arith, more)

  -- of n numbers from a on the times below the end
  abbrev below_end : ℕ → ℕ → List ℕ
  below_end a n = filter (λ t. nat_lt t until) (map tick (range_with_len a n))

  none_below : (a n : ℕ) → until ≤ tick a → below_end a n ≡ []
  none_below a zero past = refl
  none_below a (suc n) past = rw (le-ltb (tick a) until past) (none_below (a + 1) n (let more = apart a (a + 1) (omega arith) in omega (arith, more, past)))

  past_time : (k : ℕ) → until ≤ tick k → periodic_time until period offset k ≡ None
  past_time k past = rw (le-ltb (tick k) until past) refl

  later_tick : (a k : ℕ) → tick a ≤ tick (a + k)
  later_tick a k = let more : a * period ≤ (a + k) * period = mul-le-mul_right period (omega arith) in omega (arith, more)

  place_here : (a n k : ℕ) → tick a < until → ((j : ℕ) → j < n → slice_get (below_end (a + 1) n) j ≡ periodic_time until period offset (a + 1 + j)) → k < suc n
      → slice_get (tick a ∷ below_end (a + 1) n) k ≡ periodic_time until period offset (a + k)
  place_here a n zero early rest less =
      let same : a + 0 ≡ a = omega arith in
      sym (ap (periodic_time until period offset) same ∙ rw (lt-ltb (tick a) until early) refl)
  place_here a n (suc k) early rest less =
      let same : a + 1 + k ≡ a + suc k = omega arith in
      rest k (omega arith) ∙ ap (periodic_time until period offset) same

  place_below : (a n k : ℕ) → k < n → slice_get (below_end a n) k ≡ periodic_time until period offset (a + k)
  place_below a zero k less = absurd (omega arith)
  place_below a (suc n) k less = elim (cases_lt (tick a) until) [
    | inl early ↦ rw (lt-ltb (tick a) until early) (place_here a n k early (place_below (a + 1) n) less)
    | inr past ↦
        rw (le-ltb (tick a) until past, none_below (a + 1) n (let more = apart a (a + 1) (omega arith) in omega (arith, more, past)))
        (sym (past_time (a + k) (let more = later_tick a k in omega (arith, more, past))))
  ]

  few_below : length (below_end 0 until) ≤ until
  few_below = let ticks = map tick (range_with_len 0 until) in
      omega (arith, length-filter (λ t. nat_lt t until) ticks, count_by-le-length (λ t. nat_lt t until) ticks, length-map-range_with_len tick 0 until)

  place_of : (k : ℕ) → slice_get (below_end 0 until) k ≡ periodic_time until period offset k
  place_of k = elim (cases_lt k until) [
    | inl less ↦ let same : 0 + k ≡ k = omega arith in place_below 0 until k less ∙ ap (periodic_time until period offset) same
    | inr past ↦
        let least : k * 1 ≤ k * period = mul-le-mul_left k some in
        slice_get_past (below_end 0 until) k (omega (arith, few_below, past)) ∙ sym (past_time k (omega (arith, least, past)))
  ]

  -- the base time with a number
  pub periodic_place : (k : ℕ) → slice_get (periodic_times until period offset) k ≡ periodic_time until period offset k
  unfolding periodic_times
  periodic_place k = place_of k

  tick_at : (k d : ℕ) → k < until → get_or (map tick (range_with_len 0 until)) k d ≡ tick k
  tick_at k d less = get_or-map-range_with_len tick 0 until k k d less (omega arith)

  -- they rise
  pub periodic_rises : IsStrictlyIncreasing (periodic_times until period offset)
  unfolding periodic_times
  periodic_rises = IsStrictlyIncreasing-filter (λ t. nat_lt t until) (map tick (range_with_len 0 until)) (λ k fits.
      let size = length-map-range_with_len tick 0 until in
      let one = tick_at k 0 (omega (arith, fits, size)) in
      let two = tick_at (k + 1) 0 (omega (arith, fits, size)) in
      let more = apart k (k + 1) (omega arith) in
      omega (arith, one, two, more, some))

  -- two of them are at least a period apart
  pub periodic_apart : AllPairs (λ s t. s + period ≤ t) (periodic_times until period offset)
  unfolding periodic_times
  periodic_apart = AllPairs-filter (λ s t. s + period ≤ t) (λ t. nat_lt t until) (map tick (range_with_len 0 until)) (λ i j d less fits.
      let size = length-map-range_with_len tick 0 until in
      let one = tick_at i d (omega (arith, less, fits, size)) in
      let two = tick_at j d (omega (arith, fits, size)) in
      let more = apart i j less in
      omega (arith, one, two, more))

  -- ---- how many there are

  abbrev count : ℕ
  count = if nat_le until offset then 0 else (until - offset - 1) / period + 1

  counted_early : (k : ℕ) → k < count → tick k < until
  counted_early k less = elim (cases_lt offset until) [
    | inl early ↦
        let inside : k < (until - offset - 1) / period + 1 = rw (lt-leb until offset early) at less in
        let small : k * period ≤ until - offset - 1 = (le-div_iff_mul-le {k = period} {x = k} {y = until - offset - 1} (omega (arith, some))).0 (omega (arith, inside)) in
        omega (arith, small, early)
    | inr past ↦ let none : k < 0 = rw (le-leb until offset past) at less in absurd (omega (arith, none))
  ]

  early_counted : (k : ℕ) → tick k < until → k < count
  early_counted k early =
      let first : offset < until = omega (arith, early) in
      let small : k ≤ (until - offset - 1) / period = (le-div_iff_mul-le {k = period} {x = k} {y = until - offset - 1} (omega (arith, some))).1 (omega (arith, early)) in
      rw (lt-leb until offset first) (omega (arith, small))

  pub periodic_count : length (periodic_times until period offset) ≡ (if nat_le until offset then 0 else (until - offset - 1) / period + 1)
  periodic_count =
      let times : List ℕ = periodic_times until period offset in
      elim (cases_lt (length times) count) [
        | inl fewer ↦
            let here : periodic_time until period offset (length times) ≡ Some (tick (length times)) = rw (lt-ltb (tick (length times)) until (counted_early (length times) fewer)) refl in
            absurd (none-some (tick (length times)) (sym (slice_get_past times (length times) (omega arith)) ∙ periodic_place (length times) ∙ here))
        | inr enough ↦ elim (cases_lt count (length times)) [
          | inl more ↦
              elim (cases_lt (tick count) until) [
                | inl early ↦ absurd (omega (arith, early_counted count early))
                | inr past ↦ absurd (none-some (get_or times count 0) (sym (past_time count past) ∙ sym (periodic_place count) ∙ slice_get-get_or times count 0 more))
              ]
          | inr most ↦ omega (arith, enough, most)
        ]
      ]

-- ---- the releases of a periodic task

-- in a plan an instance of a periodic task is released at least a period after the one before it
pub a_period_apart : (P : Plan) (i period offset n : ℕ) → i < length P.diagram.tasks → (declared_task P i).clock ≡ Every period offset
    → 1 ≤ n → n + 1 ≤ length (times_of P.batches i) → time_of P.batches i n + period ≤ time_of P.batches i (n + 1)
a_period_apart P i period offset n inside is_clock first last =
    let t = declared_task P i in
    let at : slice_get P.diagram.tasks i ≡ Some t = slice_get-get_or P.diagram.tasks i no_declared_task inside in
    let some : 1 ≤ period = ((P.rules.ranked.closed.each i no_declared_task inside).periodic period offset is_clock).0 in
    let on = is_on P.diagram.inputs P.samples t.when in
    let all : AllPairs (λ s u. s + period ≤ u) (filter on (periodic_times P.diagram.until period offset)) =
    AllPairs-filter (λ s u. s + period ≤ u) on (periodic_times P.diagram.until period offset) (periodic_apart P.diagram.until period offset some) in
    let are : times_of P.batches i ≡ filter on (periodic_times P.diagram.until period offset) = P.rules.periodic i period offset t at is_clock in
    let next : n + 1 - 1 ≡ n = omega arith in
    rw next (subst (λ ts. get_or ts (n - 1) 0 + period ≤ get_or ts n 0) (sym are) (all (n - 1) n 0 (omega arith) (subst (λ ts. n < length ts) are (omega arith))))
