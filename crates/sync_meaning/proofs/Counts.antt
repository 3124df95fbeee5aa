-- How often the batches so far name each task.
use Rattle.std.proofs.Common.{◌≡◌, ◌≢◌, ℕ, suc, ◌<◌, ◌≤◌, ◌+◌, ◌^◌, Bool, true, false, List, [], length, take, get_or, slice_get, set, Some, refl, sym, ◌∙◌, ap, subst, arith, inl, inr, eq-eqb}
use Rattle.std.specs.Prelude.{◌==◌, ◌||◌, replicate, All, if◌then◌else◌}
use Rattle.std.specs.List.{list_any}
use Rattle.std.specs.List.Sorted.{IsStrictlyIncreasing}
use Rattle.std.proofs.Math.Bool.{or-false}
use Rattle.std.proofs.lemmas.Bool.{cases_Bool, cases_eq, ne_eqb}
use Rattle.std.proofs.lemmas.List.{length-set}
use Rattle.std.proofs.lemmas.List.Folds.{list_any_more}
use Rattle.std.proofs.lemmas.List.Sums.{sum_by_more_le}
use Rattle.std.proofs.lemmas.Option.{slice_get-get_or, slice_get_within, get_or_from_slice_get, same_Some}
use Rattle.dbp_plan.specs.declared.limits.TheConstants.{MAX_OCCURRENCES}
use Rattle.dbp_plan.specs.declared.schedule.Batch.{Batch}
use Rattle.dbp_plan.specs.Occurrences.{names, times_of, occurrence_count}
use Rattle.dbp_plan.specs.ListItems.{at_place, set_here, set_other}
use Rattle.dbp_plan.proofs.BatchTasks.{not_before, often, some_item}
use Rattle.dbp_plan.proofs.TaskTimes.{times_few, times_more}
use Rattle.sync_meaning.specs.Shape.{AreCounted, IsMarked}
use Rattle.sync_meaning.proofs.Sets.{zero_of}

-- one for a test that passes
abbrev pub one_if : Bool → ℕ
one_if b = if b then 1 else 0

-- the counts are one more for each of the first k tasks
pub record MarkedUpTo (k : ℕ) (tasks before after : List ℕ) : Type 0 where
  pub size : length after ≡ length before
  pub each : (i n : ℕ) → slice_get before i ≡ Some n → slice_get after i ≡ Some (n + one_if (list_any (λ t. t == i) (take k tasks)))

pub marked_none : (tasks before : List ℕ) → MarkedUpTo 0 tasks before before
marked_none tasks before = record {
  size = refl;
  each = λ i n at. at ∙ ap (λ (m : ℕ). Some m) (omega arith);
}

each_more : (k i n j m : ℕ) (tasks before after : List ℕ) → IsStrictlyIncreasing tasks → k < length tasks → get_or tasks k 0 ≡ i → slice_get after i ≡ Some n
    → MarkedUpTo k tasks before after → slice_get before j ≡ Some m → slice_get (set after i (n + 1)) j ≡ Some (m + one_if (list_any (λ t. t == j) (take (k + 1) tasks)))
each_more k i n j m tasks before after rising below is at marked at_j =
    let more : list_any (λ t. t == j) (take (k + 1) tasks) ≡ (list_any (λ t. t == j) (take k tasks) || (get_or tasks k 0 == j)) = list_any_more (λ t. t == j) tasks k 0 below in
    elim (cases_eq j i) [
      | inl same ↦
          let inside : i < length after = slice_get_within after i n at in
          let first : list_any (λ t. t == j) (take k tasks) ≡ false = subst (λ (v : ℕ). list_any (λ t. t == v) (take k tasks) ≡ false) (is ∙ sym same) (not_before tasks k rising below) in
          let here : (get_or tasks k 0 == j) ≡ true = eq-eqb (get_or tasks k 0) j (is ∙ sym same) in
          let before_it : slice_get after i ≡ Some (m + one_if (list_any (λ t. t == j) (take k tasks))) = ap (λ v. slice_get after v) (sym same) ∙ marked.each j m at_j in
          let value : n ≡ m + one_if (list_any (λ t. t == j) (take k tasks)) = same_Some _ _ (sym at ∙ before_it) in
          let plain : n ≡ m + 0 = value ∙ ap (λ b. m + one_if b) first in
          let sum : n + 1 ≡ m + 1 = omega arith in
          ap (λ v. slice_get (set after i (n + 1)) v) same ∙ set_here after i (n + 1) inside ∙ rw (more, first, here) (ap (λ (v : ℕ). Some v) sum)
      | inr apart ↦
          let here : (get_or tasks k 0 == j) ≡ false = ne_eqb (get_or tasks k 0) j (λ e. apart (sym e ∙ is)) in
          let same : list_any (λ t. t == j) (take (k + 1) tasks) ≡ list_any (λ t. t == j) (take k tasks) = more ∙ rw here (or-false (list_any (λ t. t == j) (take k tasks))) in
          set_other after i j (n + 1) apart ∙ marked.each j m at_j ∙ ap (λ b. Some (m + one_if b)) (sym same)
    ]

pub marked_more : (k i n : ℕ) (tasks before after : List ℕ) → IsStrictlyIncreasing tasks → k < length tasks → get_or tasks k 0 ≡ i → slice_get after i ≡ Some n
    → MarkedUpTo k tasks before after → MarkedUpTo (k + 1) tasks before (set after i (n + 1))
marked_more k i n tasks before after rising below is at marked = record {
  size = length-set after i (n + 1) ∙ marked.size;
  each = λ j m at_j. each_more k i n j m tasks before after rising below is at marked at_j;
}

pub one_if_le : (b : Bool) → one_if b ≤ 1
one_if_le b = elim (cases_Bool b) [ inl is ↦ rw is (omega arith) | inr isnt ↦ rw isnt (omega arith) ]

-- a count that may still grow fits
pub marked_fits : (k i n : ℕ) (tasks before after : List ℕ) → All (λ m. m < MAX_OCCURRENCES) before → slice_get after i ≡ Some n → MarkedUpTo k tasks before after → n + 1 < 2 ^ 32
marked_fits k i n tasks before after few at marked =
    let old : (m : ℕ) × (slice_get before i ≡ Some m) = at_place before i (omega (arith, slice_get_within after i n at, marked.size)) in
    let value : n ≡ old.0 + one_if (list_any (λ t. t == i) (take k tasks)) = same_Some _ _ (sym at ∙ marked.each i old.0 old.1) in
    let one : one_if (list_any (λ t. t == i) (take k tasks)) ≤ 1 = one_if_le (list_any (λ t. t == i) (take k tasks)) in
    let less : get_or before i 0 < MAX_OCCURRENCES = few i 0 (slice_get_within before i old.0 old.1) in
    omega (arith, value, one, less, get_or_from_slice_get before i old.0 0 old.1)

-- the counts after a batch
pub marked_few : (b : Batch) (before after : List ℕ) → All (λ m. m < MAX_OCCURRENCES) before → IsMarked b before after → All (λ m. m ≤ MAX_OCCURRENCES) after
marked_few b before after few marked i d inside =
    let old : (m : ℕ) × (slice_get before i ≡ Some m) = at_place before i (omega (arith, inside, marked.size)) in
    let value : get_or after i d ≡ old.0 + one_if (names i b) = get_or_from_slice_get after i _ d (marked.each i old.0 old.1) in
    let one : one_if (names i b) ≤ 1 = one_if_le (names i b) in
    let less : get_or before i 0 < MAX_OCCURRENCES = few i 0 (slice_get_within before i old.0 old.1) in
    omega (arith, value, one, less, get_or_from_slice_get before i old.0 0 old.1)

pub counted_none : (count : ℕ) (named : List ℕ) → named ≡ replicate count 0 → AreCounted [] named
counted_none count named zeros = record { each = λ i n at. zero_of count i n named zeros at }

pub counted_more : (k : ℕ) (bs : List Batch) (b : Batch) (before after : List ℕ) → slice_get bs k ≡ Some b → AreCounted (take k bs) before → IsMarked b before after → AreCounted (take (k + 1) bs) after
unfolding often
counted_more k bs b before after at counted marked = record {
  each = λ i n after_i.
      let inside : i < length before = omega (arith, slice_get_within after i n after_i, marked.size) in
      let old : (m : ℕ) × (slice_get before i ≡ Some m) = at_place before i inside in
      let value : n ≡ old.0 + one_if (names i b) = same_Some _ _ (sym after_i ∙ marked.each i old.0 old.1) in
      let count : old.0 ≡ length (times_of (take k bs) i) = counted.each i old.0 old.1 in
      let next : suc k ≡ k + 1 = omega arith in
      value ∙ ap (λ m. m + one_if (names i b)) count ∙ sym (times_more bs k i b at) ∙ ap (λ m. length (times_of (take m bs) i)) next;
}

pub counted_few : (k : ℕ) (bs : List Batch) (named : List ℕ) → k < length bs → All (λ b. b.tasks ≢ []) bs → occurrence_count bs ≤ MAX_OCCURRENCES → AreCounted (take k bs) named → All (λ n. n < MAX_OCCURRENCES) named
counted_few k bs named below some few counted i d inside =
    let n = get_or named i d in
    let count : n ≡ length (times_of (take k bs) i) = counted.each i n (slice_get-get_or named i d inside) in
    let b : (b : Batch) × (slice_get bs k ≡ Some b) = at_place bs k below in
    let same : get_or bs k b.0 ≡ b.0 = get_or_from_slice_get bs k b.0 b.0 b.1 in
    let tasks : (get_or bs k b.0).tasks ≢ [] = some k b.0 below in
    let left : 1 ≤ length (get_or bs k b.0).tasks = some_item (get_or bs k b.0).tasks tasks in
    let room : occurrence_count (take k bs) + length (get_or bs k b.0).tasks ≤ occurrence_count bs = sum_by_more_le (λ c. length c.tasks) bs k b.0 below in
    omega (arith, count, times_few (take k bs) i, room, left, few)
