-- The base times of a clock by their numbers, how many there are, and how many are before a time.
use Rattle.std.proofs.Common.{◌≡◌, ℕ, ◌+◌, ◌*◌, ◌<◌, ◌≤◌, true, false, List, [], get_or, length, slice_get, Some, None, arith, refl, sym, ap, subst, ◌∙◌, inl, inr}
use Rattle.std.specs.Prelude.{min, nat_lt, replicate}
use Rattle.std.specs.List.Sorted.{IsNonDecreasingBy, IsPartitionPoint, IsPartitionedBy, IsStrictlyIncreasing}
use Rattle.std.specs.Fn.{Called, ComputesKey}
use denote.Ref.{Bor}
use denote.Param.Members.{Mut}
use Rattle.std.proofs.lemmas.Bool.{cases_lt, ltb-false, ltb-true, lt-ltb}
use Rattle.std.proofs.lemmas.List.Kept.{AllPairs-from_increasing}
use Rattle.std.proofs.lemmas.List.Sorted.{IsPartitionPoint-from_clause, IsPartitionedBy-ltb}
use Rattle.std.proofs.lemmas.Option.{cond_some, get_or_from_slice_get, none-some, slice_get-get_or, slice_get_past, slice_get_within}
use Rattle.dbp_plan.specs.declared.diagram.Clock.{Clock}
use Rattle.dbp_plan.specs.declared.diagram.Clock.TheVariants.{Every, On}
use Rattle.dbp_plan.specs.Clocks.{base_times, periodic_time, periodic_times, time_at}
use Rattle.dbp_plan.proofs.ClockTimes.{periodic_count, periodic_place}
use Rattle.dbp_plan.proofs.ListParts.{repeated}
use Rattle.trace_io.specs.Counts.{HasNumbersInRange, count_of}
use Rattle.trace_io.specs.Spans.{IsCountBefore}

pub base-place : (until : ℕ) (events : List (List ℕ)) (clock : Clock) (k : ℕ) → HasNumbersInRange clock → slice_get (base_times until events clock) k ≡ time_at until events clock k
base-place until events (Every period offset) k is = periodic_place until period offset is.0 k
base-place until events (On event) k is = refl

pub base-count : (until : ℕ) (events : List (List ℕ)) (clock : Clock) → HasNumbersInRange clock → length (base_times until events clock) ≡ count_of until events clock
base-count until events (Every period offset) is = periodic_count until period offset is.0
base-count until events (On event) is = refl

-- events that don't occur make no difference
pub no-times : (until n : ℕ) (clock : Clock) → base_times until (replicate n []) clock ≡ base_times until [] clock
no-times until n (Every period offset) = refl
no-times until n (On event) = repeated n event []

-- ---- how many are before a time

pub time-is : (until period offset k t : ℕ) → periodic_time until period offset k ≡ Some t → (offset + k * period ≡ t) × (offset + k * period < until)
time-is until period offset k t at =
    let both = cond_some (nat_lt (offset + k * period) until) (offset + k * period) t at in
    (both.1, ltb-true (offset + k * period) until both.0)

time-none : (until period offset k : ℕ) → periodic_time until period offset k ≡ None → until ≤ offset + k * period
time-none until period offset k none = elim (cases_lt (offset + k * period) until) [
  | inl early ↦
      let here : periodic_time until period offset k ≡ Some (offset + k * period) = rw (lt-ltb (offset + k * period) until early) refl in
      absurd (none-some (offset + k * period) (sym none ∙ here))
  | inr past ↦ past
]

module _ (until period offset time : ℕ) (some : 1 ≤ period) where
  abbrev low : ℕ
  low = min time until

  abbrev times : List ℕ
  times = periodic_times until period offset

  abbrev early : List ℕ
  early = periodic_times low period offset

  in-early : (k : ℕ) → k < length early → offset + k * period < low
  in-early k less =
      let here : periodic_time low period offset k ≡ Some (get_or early k 0) = sym (periodic_place low period offset some k) ∙ slice_get-get_or early k 0 less in
      (time-is low period offset k (get_or early k 0) here).1

  past-early : (k : ℕ) → length early ≤ k → low ≤ offset + k * period
  past-early k past = time-none low period offset k (sym (periodic_place low period offset some k) ∙ slice_get_past early k past)

  fewer-early : length early ≤ length times
  fewer-early = elim (cases_lt (length times) (length early)) [
    | inl more ↦
        let inside = in-early (length times) more in
        let past = time-none until period offset (length times) (sym (periodic_place until period offset some (length times)) ∙ slice_get_past times (length times) (omega arith)) in
        absurd (omega (arith, inside, past))
    | inr most ↦ most
  ]

  -- they are the base times of a clock that ends at the time
  pub periodic-before : IsCountBefore times time (length early)
  periodic-before = record {
    within = fewer-early;
    before = λ k t less at.
        let is = time-is until period offset k t (sym (periodic_place until period offset some k) ∙ at) in
        omega (arith, in-early k less, is.0);
    after = λ k t past at.
        let is = time-is until period offset k t (sym (periodic_place until period offset some k) ∙ at) in
        omega (arith, past-early k past, is.0, is.1);
  }

-- so many base times of a periodic clock are before the time
pub clock-before : (until time : ℕ) (events : List (List ℕ)) (clock : Clock) (period offset : ℕ) → clock ≡ Every period offset → HasNumbersInRange clock → (n : ℕ) → n ≡ count_of (min time until) events clock
    → IsCountBefore (base_times until events clock) time n
clock-before until time events clock period offset is range n count =
    let some : 1 ≤ period = (subst HasNumbersInRange is range).0 in
    let size : n ≡ length (periodic_times (min time until) period offset) = count ∙ ap (count_of (min time until) events) is ∙ sym (periodic_count (min time until) period offset some) in
    rw (is, size) (periodic-before until period offset time some)

-- a search by halves for the first one that isn't before the time finds how many are
pub event-before : {F : Type 0} {g : Mut F (Bor ℕ × Unit {0}) _} {f : F} (times : List ℕ) (time n : ℕ) → IsStrictlyIncreasing times → n ≤ length times
    → ((q : ℕ → _) → ComputesKey g q f → IsPartitionedBy q times → IsPartitionPoint (λ y. q y ≡ true) (λ y. q y ≡ false) times n)
    → ((a : Bor ℕ × Unit {0}) (r : _) (f' : F) → Called g f a r f' → (r ≡ nat_lt a.0.now time) × (f' ≡ f)) → IsCountBefore times time n
event-before times time n rising within clause calls =
    let rise : IsNonDecreasingBy (λ t. t) times = λ i j d less below. elim (cases_lt i j) [
      | inl before ↦ let pair = AllPairs-from_increasing times rising i j d before below in omega (arith, pair)
      | inr last ↦ let same : i ≡ j = omega arith in rw same (omega arith)
    ] in
    let point = IsPartitionPoint-from_clause (λ t. nat_lt t time) times n clause (IsPartitionedBy-ltb (λ t. t) times time rise) calls in
    record {
      within = within;
      before = λ k t less at.
          let is : get_or times k 0 ≡ t = get_or_from_slice_get times k t 0 at in
          let below = ltb-true (get_or times k 0) time (point.0 k 0 (omega arith) less) in
          omega (arith, is, below);
      after = λ k t past at.
          let is : get_or times k 0 ≡ t = get_or_from_slice_get times k t 0 at in
          let above = ltb-false (get_or times k 0) time (point.1 k 0 past (slice_get_within times k t at)) in
          omega (arith, is, above);
    }

pub none-before : (time : ℕ) → IsCountBefore [] time 0
none-before time = record {
  within = omega arith;
  before = λ k t less at. absurd (omega (arith, less));
  after = λ k t past at. absurd (none-some t at);
}
