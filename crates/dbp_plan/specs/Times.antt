-- A task's times rise, and of the rising times the first ones are those until a time.
use Rattle.std.proofs.Common.{◌≡◌, ℕ, zero, suc, ◌+◌, ◌<◌, ◌≤◌, cond, List, [], ◌∷◌, length, get_or, slice_get, Some, refl, sym, ◌∙◌, arith, inl, inr}
use Rattle.std.specs.Prelude.{All, nat_le, map, filter}
use Rattle.std.specs.List.Sorted.{IsStrictlyIncreasing}
use Rattle.std.proofs.lemmas.Bool.{cases_Bool, cases_lt, le-leb, lt-leb}
use Rattle.std.proofs.lemmas.List.{length-map}
use Rattle.std.proofs.lemmas.List.Elements.{All-filter, All-map}
use Rattle.std.proofs.lemmas.List.Kept.{AllPairs-from_increasing}
use Rattle.std.proofs.lemmas.List.Sums.{sum_by-cons}
use Rattle.std.proofs.lemmas.Option.{get_or_from_slice_get, slice_get_within, slice_get-get_or, same_Some}
use Rattle.std.proofs.Math.ListN.{get_or-map}
use Rattle.dbp_plan.specs.declared.schedule.Batch.{Batch}
use Rattle.dbp_plan.specs.Occurrences.{count_until, names, times_of}

-- each time is before all later ones
pub record Rises (ts : List ℕ) : Type 0 where
  pub pairs : (p q s t : ℕ) → p < q → slice_get ts p ≡ Some s → slice_get ts q ≡ Some t → s < t

rises_none : Rises []
rises_none = record { pairs = λ p q s t less at_s at_t. absurd (cc (at_s)) }

-- a time before all others
rises_more : (t : ℕ) (ts : List ℕ) → All (λ u. t < u) ts → Rises ts → Rises (t ∷ ts)
rises_more t ts first rises = record { pairs = λ p q s u less at_s at_u. more p q s u less at_s at_u }
  where
    more : (p q s u : ℕ) → p < q → slice_get (t ∷ ts) p ≡ Some s → slice_get (t ∷ ts) q ≡ Some u → s < u
    more p zero s u less at_s at_u = absurd (omega arith)
    more zero (suc q) s u less at_s at_u =
        let here : t ≡ s = same_Some _ _ at_s in
        let there : get_or ts q 0 ≡ u = get_or_from_slice_get ts q u 0 at_u in
        let after : t < get_or ts q 0 = first q 0 (slice_get_within ts q u at_u) in
        omega arith
    more (suc p) (suc q) s u less at_s at_u = rises.pairs p q s u (omega arith) at_s at_u

rises_rest : (t : ℕ) (ts : List ℕ) → Rises (t ∷ ts) → Rises ts
rises_rest t ts rises = record { pairs = λ p q s u less at_s at_u. rises.pairs (suc p) (suc q) s u (omega arith) at_s at_u }

rises_first : (t : ℕ) (ts : List ℕ) → Rises (t ∷ ts) → All (λ u. t < u) ts
rises_first t ts rises k d below = rises.pairs 0 (suc k) t (get_or ts k d) (omega arith) refl (slice_get-get_or ts k d below)

-- a task's times are some of the batches'
pub times_all : (P : ℕ → Type 0) (bs : List Batch) (i : ℕ) → All (λ b. P b.time) bs → All P (times_of bs i)
times_all P bs i each = All-map P (λ (b : Batch). b.time) (filter (names i) bs) (All-filter (names i) (λ (b : Batch). P b.time) bs each)

times_rise : (bs : List Batch) (i : ℕ) → Rises (map (λ b. b.time) bs) → Rises (times_of bs i)
times_rise [] i rises = rises_none
times_rise (b ∷ bs) i rises =
    let rest : Rises (times_of bs i) = times_rise bs i (rises_rest b.time (map (λ a. a.time) bs) rises) in
    let later : All (λ (a : Batch). b.time < a.time) bs = each_later bs (rises_first b.time (map (λ a. a.time) bs) rises) in
    let all : All (λ t. b.time < t) (times_of bs i) = times_all (λ t. b.time < t) bs i later in
    elim (cases_Bool (names i b)) [
      | inl is ↦ rw is (rises_more b.time (times_of bs i) all rest)
      | inr isnt ↦ rw isnt rest
    ]
  where
    each_later : {t : ℕ} (bs : List Batch) → All (λ u. t < u) (map (λ a. a.time) bs) → All (λ a. t < a.time) bs
    each_later {t} bs later k d below =
        let size : length (map (λ (a : Batch). a.time) bs) ≡ length bs = length-map bs (λ (a : Batch). a.time) in
        let here : t < get_or (map (λ (a : Batch). a.time) bs) k d.time = later k d.time (omega arith) in
        rw (sym (get_or-map (λ (a : Batch). a.time) bs k d)) here

pub times-rise : (bs : List Batch) (i : ℕ) → IsStrictlyIncreasing (map (λ b. b.time) bs) → Rises (times_of bs i)
times-rise bs i rising = times_rise bs i (record {
  pairs = λ p q s t less at_s at_t.
      let times : List ℕ = map (λ b. b.time) bs in
      let first : get_or times p 0 ≡ s = get_or_from_slice_get times p s 0 at_s in
      let second : get_or times q 0 ≡ t = get_or_from_slice_get times q t 0 at_t in
      let pair : get_or times p 0 < get_or times q 0 = AllPairs-from_increasing times rising p q 0 less (slice_get_within times q t at_t) in
      omega arith;
})

pub count-come : (t : ℕ) (ts : List ℕ) (time : ℕ) → t ≤ time → count_until (t ∷ ts) time ≡ 1 + count_until ts time
count-come t ts time come = sum_by-cons (λ (u : ℕ). cond (nat_le u time) 1 0) t ts ∙ rw (le-leb t time come) refl

pub count-later : (t : ℕ) (ts : List ℕ) (time : ℕ) → time < t → count_until (t ∷ ts) time ≡ count_until ts time
count-later t ts time later = sum_by-cons (λ (u : ℕ). cond (nat_le u time) 1 0) t ts ∙ rw (lt-leb t time later) (omega arith)

pub none-come : (ts : List ℕ) (time : ℕ) → All (λ t. time < t) ts → count_until ts time ≡ 0
none-come [] time later = refl
none-come (t ∷ ts) time later =
    count-later t ts time (later 0 0 (omega arith)) ∙ none-come ts time (λ k d fits. later (suc k) d (omega arith))

-- as many first times as are counted until a time are not after it
pub has_come : (ts : List ℕ) (k t time : ℕ) → Rises ts → slice_get ts k ≡ Some t → k < count_until ts time → t ≤ time
has_come [] k t time rises at counted = absurd (cc (at))
has_come (u ∷ us) k t time rises at counted = elim (cases_lt time u) [
  | inl later ↦
      let first : All (λ v. u < v) us = rises_first u us rises in
      let none : count_until us time ≡ 0 = none-come us time (λ j d fits. let above : u < get_or us j d = first j d fits in omega arith) in
      absurd (omega (arith, count-later u us time later, none))
  | inr come ↦ next k come at (omega (arith, count-come u us time come)) (λ j there below. has_come us j t time (rises_rest u us rises) there below)
]
  where
    next : (j : ℕ) → u ≤ time → slice_get (u ∷ us) j ≡ Some t → j < 1 + count_until us time → ((i : ℕ) → slice_get us i ≡ Some t → i < count_until us time → t ≤ time) → t ≤ time
    next zero come here below rest = let same : u ≡ t = same_Some _ _ here in omega arith
    next (suc j) come there below rest = rest j there (omega arith)
