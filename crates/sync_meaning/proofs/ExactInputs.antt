-- The inputs' values, sample by sample.
use Rattle.std.proofs.Common.{◌≡◌, ℕ, ℤ, suc, ◌+◌, ◌<◌, ◌≤◌, true, false, List, [], ◌∷◌, ◌++◌, length, map, take, drop, get_or, slice_get, set, option_map, Some, All, AllPairs, IsTrue, filter, nat_le, refl, sym, ◌∙◌, ap, arith, inl, inr, eq-eqb, length-drop}
use Rattle.std.specs.Prelude.{◌==◌}
use Rattle.std.proofs.Math.Bool.{and-false, and-true}
use Rattle.std.proofs.lemmas.Bool.{cases_Bool, cases_eq, le-leb, lt-leb, ne_eqb}
use Rattle.std.proofs.lemmas.Bool.Decides.{nat_tests}
use Rattle.std.proofs.lemmas.List.{append-nil, get_or-drop, length-map, length-set, map-append, take-append-drop}
use Rattle.std.proofs.lemmas.List.Elements.{All-push, filter-append}
use Rattle.std.proofs.lemmas.List.Sums.{fold-append}
use Rattle.std.proofs.lemmas.Option.{get_or_from_slice_get, slice_get-map, slice_get_within, same_Some}
use Rattle.dbp_plan.specs.declared.diagram.Input.{Input}
use Rattle.dbp_plan.specs.declared.schedule.Sample.{Sample}
use Rattle.dbp_plan.specs.Samples.{first_value, is_before, is_given, last_value, own_samples}
use Rattle.dbp_plan.specs.ListItems.{at_place}
use Rattle.sync_meaning.specs.Taken.{AreTaken, AreValuesAt, HasLastValues}
use Rattle.dbp_plan.proofs.ListParts.{take_push}
use Rattle.sync_meaning.proofs.Sets.{set_cases}

-- the values that the samples give the input
abbrev values_for : ℕ → List Sample → List ℤ
values_for x samples = map (λ s. s.value) (own_samples x samples)

first_of : (inputs : List Input) (x : ℕ) (value : ℤ) → slice_get (map (λ i. i.first) inputs) x ≡ Some value → value ≡ first_value inputs x
first_of inputs x value at =
    let inside : x < length inputs = omega (arith, slice_get_within (map (λ i. i.first) inputs) x value at, length-map inputs (λ i. i.first)) in
    let i : (i : Input) × (slice_get inputs x ≡ Some i) = at_place inputs x inside in
    let first : slice_get (map (λ j. j.first) inputs) x ≡ Some i.0.first = slice_get-map (λ j. j.first) inputs x ∙ ap (option_map (λ j. j.first)) i.1 in
    rw i.1 (same_Some _ _ (sym at ∙ first))

-- before the first sample
pub taken_none : (inputs : List Input) (samples : List Sample) (time taken : ℕ) (values : List ℤ) → taken ≡ 0 → values ≡ map (λ i. i.first) inputs → AreTaken inputs samples time taken values
taken_none inputs samples time taken values none is = rw none (record {
  size = ap length is ∙ length-map inputs (λ i. i.first);
  within = omega arith;
  come = λ k d below. absurd (omega arith);
  last = λ x value at. first_of inputs x value (ap (λ (l : List ℤ). slice_get l x) (sym is) ∙ at);
})

-- what was taken at a time was taken at a later one
pub taken_later : (inputs : List Input) (samples : List Sample) (time later taken : ℕ) (values : List ℤ) → time ≤ later → AreTaken inputs samples time taken values → AreTaken inputs samples later taken values
taken_later inputs samples time later taken values le a = record {
  size = a.size;
  within = a.within;
  come = λ k d below. let come : (get_or (take taken samples) k d).time ≤ time = a.come k d below in omega arith;
  last = a.last;
}

for_here : (x : ℕ) (samples : List Sample) (s : Sample) → (s.input == x) ≡ true → values_for x (samples ++ s ∷ []) ≡ values_for x samples ++ s.value ∷ []
for_here x samples s is =
    rw (filter-append (λ (r : Sample). r.input == x) samples (s ∷ []), map-append (λ (r : Sample). r.value) (own_samples x samples) (own_samples x (s ∷ [])), is) refl

for_other : (x : ℕ) (samples : List Sample) (s : Sample) → (s.input == x) ≡ false → values_for x (samples ++ s ∷ []) ≡ values_for x samples
for_other x samples s isnt =
    rw (filter-append (λ (r : Sample). r.input == x) samples (s ∷ []), map-append (λ (r : Sample). r.value) (own_samples x samples) (own_samples x (s ∷ [])), isnt) (append-nil (values_for x samples))

last-push : (first : ℤ) (values : List ℤ) (v : ℤ) → last_value first (values ++ v ∷ []) ≡ v
last-push first values v = fold-append (λ _ w. w) first values (v ∷ [])

last_more : (inputs : List Input) (samples : List Sample) (s : Sample) (values : List ℤ) → HasLastValues inputs samples values → HasLastValues inputs (samples ++ s ∷ []) (set values s.input s.value)
last_more inputs samples s values last x value at = elim (set_cases values s.input x s.value value at) [
  | inl here ↦ sym here.1 ∙ sym (ap (last_value (first_value inputs x)) (for_here x samples s (eq-eqb s.input x (sym here.0))) ∙ last-push (first_value inputs x) (values_for x samples) s.value)
  | inr there ↦ last x value there.1 ∙ ap (last_value (first_value inputs x)) (sym (for_other x samples s (ne_eqb s.input x (λ e. there.0 (sym e)))))
]

-- one sample more
pub taken_more : (inputs : List Input) (samples : List Sample) (time k : ℕ) (s : Sample) (values : List ℤ) → slice_get samples k ≡ Some s → s.time ≤ time → AreTaken inputs samples time k values
    → AreTaken inputs samples time (k + 1) (set values s.input s.value)
taken_more inputs samples time k s values at come a = record {
  size = length-set values s.input s.value ∙ a.size;
  within = omega (arith, slice_get_within samples k s at);
  come = rw (take_push samples k s at) (All-push (λ (r : Sample). r.time ≤ time) (take k samples) s a.come come);
  last = rw (take_push samples k s at) (last_more inputs (take k samples) s values a.last);
}

before_le : (a b : Sample) → is_before a b ≡ true → a.time ≤ b.time
before_le a b before = grind (arith, nat_tests)

-- samples stand by time, so after a later one all are later
pub rest_later : (samples : List Sample) (time k : ℕ) → AllPairs (λ a b. IsTrue (is_before a b)) samples → ((s : Sample) → slice_get samples k ≡ Some s → time < s.time) → All (λ s. time < s.time) (drop k samples)
rest_later samples time k order next j d below =
    let inside : k + j < length samples = omega (arith, below, length-drop k samples) in
    let first : (s : Sample) × (slice_get samples k ≡ Some s) = at_place samples k (omega arith) in
    let read : get_or samples k d ≡ first.0 = get_or_from_slice_get samples k first.0 d first.1 in
    let less : time < (get_or samples k d).time = rw read (next first.0 first.1) in
    let place : get_or (drop k samples) j d ≡ get_or samples (k + j) d = get_or-drop k samples j d in
    rw place (elim (cases_eq j 0) [
      | inl same ↦ let here : k + j ≡ k = omega arith in rw here less
      | inr apart ↦
          let le : (get_or samples k d).time ≤ (get_or samples (k + j) d).time = before_le (get_or samples k d) (get_or samples (k + j) d) (order k (k + j) d (omega arith) inside) in
          omega (arith, less, le)
    ])

filter_come : (x time : ℕ) (samples : List Sample) → All (λ s. s.time ≤ time) samples → filter (is_given x time) samples ≡ own_samples x samples
filter_come x time [] come = refl
filter_come x time (s ∷ samples) come =
    let rest : filter (is_given x time) samples ≡ own_samples x samples = filter_come x time samples (λ k d below. come (suc k) d (omega arith)) in
    let here : nat_le s.time time ≡ true = le-leb s.time time (come 0 s (omega arith)) in
    let same : is_given x time s ≡ (s.input == x) = rw here (and-true (s.input == x)) in
    elim (cases_Bool (s.input == x)) [
      | inl is ↦ rw (same, is) (ap (λ (l : List Sample). s ∷ l) rest)
      | inr isnt ↦ rw (same, isnt) rest
    ]

filter_later : (x time : ℕ) (samples : List Sample) → All (λ s. time < s.time) samples → filter (is_given x time) samples ≡ []
filter_later x time [] later = refl
filter_later x time (s ∷ samples) later =
    let rest : filter (is_given x time) samples ≡ [] = filter_later x time samples (λ k d below. later (suc k) d (omega arith)) in
    let here : nat_le s.time time ≡ false = lt-leb s.time time (later 0 s (omega arith)) in
    let none : is_given x time s ≡ false = rw here (and-false (s.input == x)) in
    rw none rest

-- with all samples up to the time taken, the values are those of the time
pub taken_all : (inputs : List Input) (samples : List Sample) (time k : ℕ) (values : List ℤ) → AreTaken inputs samples time k values → All (λ s. time < s.time) (drop k samples) → AreValuesAt inputs samples time values
taken_all inputs samples time k values a later x value at =
    let parts : filter (is_given x time) (take k samples ++ drop k samples) ≡ filter (is_given x time) (take k samples) ++ filter (is_given x time) (drop k samples) = filter-append (is_given x time) (take k samples) (drop k samples) in
    let front : filter (is_given x time) (take k samples) ≡ own_samples x (take k samples) = filter_come x time (take k samples) a.come in
    let after : filter (is_given x time) (drop k samples) ≡ [] = filter_later x time (drop k samples) later in
    let all : filter (is_given x time) samples ≡ own_samples x (take k samples) =
    ap (filter (is_given x time)) (sym (take-append-drop k samples)) ∙ parts ∙ rw after (append-nil (filter (is_given x time) (take k samples))) ∙ front in
    a.last x value at ∙ ap (λ (l : List Sample). last_value (first_value inputs x) (map (λ s. s.value) l)) (sym all)
