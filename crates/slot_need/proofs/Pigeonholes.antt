-- As many distinct numbers as there are below a bound, and below it, are all of these.
use Rattle.std.proofs.Common.{◌≡◌, ◌≢◌, ℕ, zero, suc, ◌<◌, ◌≤◌, true, false, List, [], ◌∷◌, length, slice_get, Some, refl, sym, ap, inl, inr, arith, eqb}
use Rattle.std.specs.List.{AllByRecursion, IsDistinct, list_any}
use Rattle.std.proofs.lemmas.Bool.{both_ways, cases_Bool, eqb-true}
use Rattle.std.proofs.lemmas.Map.Steps.{length-le_from_distinct_below}
use Rattle.dia_check.proofs.LinkLists.{any-at}

other-number : (a b : ℕ) → a ≢ b → eqb a b ≡ false
other-number a b apart = elim (cases_Bool (eqb a b)) [ inl is ↦ absurd (apart (eqb-true a b is)) | inr isnt ↦ isnt ]

all-of : {A : Type 0} (P : A → Type 0) (xs : List A) → ((i : ℕ) (x : A) → slice_get xs i ≡ Some x → P x) → AllByRecursion P xs
all-of P [] each = tt
all-of P (x ∷ xs) each = (each 0 x refl, all-of P xs (λ i y at. each (suc i) y at))

-- no two of the numbers are the same
abbrev pub AreDistinct : List ℕ → Type 0
AreDistinct xs = (i j a b : ℕ) → i < j → slice_get xs i ≡ Some a → slice_get xs j ≡ Some b → a ≢ b

distinct-from : (xs : List ℕ) → AreDistinct xs → IsDistinct eqb xs
unfolding IsDistinct
distinct-from [] apart = tt
distinct-from (x ∷ xs) apart = (
  all-of (λ y. eqb x y ≡ false) xs (λ i y at. other-number x y (apart 0 (suc i) x y (omega arith) refl at)),
  distinct-from xs (λ i j a b less at_a at_b. apart (suc i) (suc j) a b (omega (arith, less)) at_a at_b),
)

place-of : (xs : List ℕ) (q : ℕ) → list_any (eqb q) xs ≡ true → (i : ℕ) × (slice_get xs i ≡ Some q)
place-of [] q is = absurd (cc)
place-of (x ∷ xs) q is = elim (cases_Bool (eqb q x)) [
  | inl here ↦ (0, ap Some (sym (eqb-true q x here)))
  | inr isnt ↦ let (i, at) = place-of xs q (rw isnt at is) in (suc i, at)
]

pub all-are-there : (xs : List ℕ) (n : ℕ) → AreDistinct xs → ((i x : ℕ) → slice_get xs i ≡ Some x → x < n) → length xs ≡ n → (q : ℕ) → q < n → (i : ℕ) × (slice_get xs i ≡ Some q)
unfolding IsDistinct
all-are-there xs n apart below size q inside = elim (cases_Bool (list_any (eqb q) xs)) [
  | inl there ↦ place-of xs q there
  | inr isnt ↦
      let others : AllByRecursion (λ y. eqb q y ≡ false) xs =
      all-of (λ y. eqb q y ≡ false) xs (λ i y at. elim (cases_Bool (eqb q y)) [ inl is ↦ absurd (both_ways (list_any (eqb q) xs) isnt (any-at (eqb q) xs i y at is)) | inr other ↦ other ]) in
      let most : length (q ∷ xs) ≤ n =
      length-le_from_distinct_below (q ∷ xs) n (others, distinct-from xs apart) (λ r among. let (i, at) = place-of (q ∷ xs) r among in bound i r at) in
      absurd (omega (arith, most, size))
]
  where
    bound : (i r : ℕ) → slice_get (q ∷ xs) i ≡ Some r → r < n
    bound zero r at = let same : Some q ≡ Some r = at in let is : q ≡ r = cc in omega (arith, inside, is)
    bound (suc i) r at = below i r at
