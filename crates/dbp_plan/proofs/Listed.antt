-- Lists of distinct numbers below a bound.
use Rattle.std.proofs.Common.{◌≡◌, ◌≢◌, ℕ, ◌<◌, ◌≤◌, AllPairs, Contains, List, [], ◌∷◌, ◌++◌, length, get_or, slice_get, Some, sym, ◌∙◌, ap, arith, ◌⊎◌, inl, inr, length-append}
use Rattle.std.specs.Bool.{Decides}
use Rattle.std.proofs.lemmas.Bool.{cases_Bool, cases_lt}
use Rattle.std.proofs.lemmas.Bool.Decides.{Decides-eqb}
use Rattle.std.proofs.Math.Dec.{eqb}
use Rattle.std.specs.Set.{is_member}
use Rattle.std.proofs.lemmas.Option.{slice_get-get_or, slice_get_within, get_or_from_slice_get}
use Rattle.std.proofs.lemmas.List.Elements.{All-contains, All-push}
use Rattle.std.proofs.lemmas.List.Quantifiers.{all_pairs_push}
use Rattle.std.proofs.lemmas.Map.Made.{is_member-Decides, IsDistinct-from_AllPairs}
use Rattle.std.proofs.lemmas.Map.Steps.{length-le_from_distinct_below, le-length_from_below}
use Rattle.dbp_plan.specs.Listed.{AreListed}

-- a number that a list has stands at a place
pub place_of : (xs : List ℕ) (x : ℕ) → Contains xs x → (k : ℕ) × (k < length xs) × (slice_get xs k ≡ Some x)
place_of xs x among = (among.0, among.1, slice_get-get_or xs among.0 x among.1 ∙ ap (λ (z : ℕ). Some z) among.2)

-- what stands at a place is in the list
pub contains_at : (xs : List ℕ) (k x : ℕ) → slice_get xs k ≡ Some x → Contains xs x
contains_at xs k x at = (k, slice_get_within xs k x at, get_or_from_slice_get xs k x x at)

-- a number is in the list or not
pub contains_cases : (xs : List ℕ) (x : ℕ) → Contains xs x ⊎ (Contains xs x → ⊥)
contains_cases xs x =
    let tells : Decides (is_member eqb xs x) (Contains xs x) = is_member-Decides Decides-eqb xs x in
    elim (cases_Bool (is_member eqb xs x)) [
      | inl yes_member ↦ inl (tells.0 yes_member)
      | inr no_member ↦ inr (λ among. let member = tells.1 among in cc)
    ]

-- no number stands at two places
pub one_place : (xs : List ℕ) → AllPairs (λ i j. i ≢ j) xs → (k m x : ℕ) → slice_get xs k ≡ Some x → slice_get xs m ≡ Some x → k ≡ m
one_place xs once k m x at_k at_m =
    let same : get_or xs k x ≡ get_or xs m x = get_or_from_slice_get xs k x x at_k ∙ sym (get_or_from_slice_get xs m x x at_m) in
    elim (cases_lt k m) [
      | inl below ↦ absurd (once k m x below (slice_get_within xs m x at_m) same)
      | inr other ↦ elim (cases_lt m k) [
        | inl above ↦ absurd (once m k x above (slice_get_within xs k x at_k) (sym same))
        | inr under ↦ omega arith
      ]
    ]

-- a new number at the end leaves each once
pub once_push : (xs : List ℕ) (x : ℕ) → AllPairs (λ i j. i ≢ j) xs → (Contains xs x → ⊥) → AllPairs (λ i j. i ≢ j) (xs ++ x ∷ [])
once_push xs x once fresh =
    all_pairs_push (λ i j. i ≢ j) xs x once (λ k d below same. fresh (contains_at xs k x (slice_get-get_or xs k d below ∙ ap (λ (z : ℕ). Some z) same)))

-- and if it is below the bound, all are distinct numbers below it
pub listed_push : (n : ℕ) (xs : List ℕ) (x : ℕ) → AreListed n xs → x < n → (Contains xs x → ⊥) → AreListed n (xs ++ x ∷ [])
listed_push n xs x listed below fresh = record {
  named = All-push (λ i. i < n) xs x listed.named below;
  once = once_push xs x listed.once fresh;
}

pub listed_none : (n : ℕ) → AreListed n []
listed_none n = record { named = λ k d below. absurd (omega arith); once = λ i j d less below. absurd (omega arith) }

-- there are at most as many as the bound
pub listed_few : (n : ℕ) (xs : List ℕ) → AreListed n xs → length xs ≤ n
listed_few n xs listed =
    length-le_from_distinct_below xs n (IsDistinct-from_AllPairs Decides-eqb xs listed.once)
    (λ q member. All-contains (λ i. i < n) xs q listed.named ((is_member-Decides Decides-eqb xs q).0 member))

-- and fewer if one below the bound is missing
pub listed_room : (n : ℕ) (xs : List ℕ) (x : ℕ) → AreListed n xs → x < n → (Contains xs x → ⊥) → length xs < n
listed_room n xs x listed below fresh = omega (arith, listed_few n (xs ++ x ∷ []) (listed_push n xs x listed below fresh), length-append xs (x ∷ []))

-- as many as the bound are all
pub listed_all : (n : ℕ) (xs : List ℕ) (x : ℕ) → AreListed n xs → n ≤ length xs → x < n → Contains xs x
listed_all n xs x listed full below = elim (contains_cases xs x) [
  | inl inside ↦ inside
  | inr outside ↦ let fewer = listed_room n xs x listed below outside in absurd (omega (arith, fewer))
]

-- a list that has all below the bound is as long
pub listed_full : (n : ℕ) (xs : List ℕ) → AreListed n xs → ((x : ℕ) → x < n → Contains xs x) → length xs ≡ n
listed_full n xs listed each =
    let long : n ≤ length xs = le-length_from_below xs n (λ q below. (is_member-Decides Decides-eqb xs q).1 (each q below)) in
    omega (arith, long, listed_few n xs listed)
