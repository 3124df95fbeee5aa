-- Lists of numbered items.
use Rattle.std.proofs.Common.{◌≡◌, ◌≢◌, ℕ, zero, suc, ◌+◌, ◌*◌, ◌<◌, ◌≤◌, Bool, true, false, All, [], ◌∷◌, ◌++◌, length, map, take, get_or, slice_get, Some, None, refl, sym, ap, ◌∙◌, subst, inl, inr, arith}
use Rattle.std.specs.Prelude.{sum_by, find}
use Rattle.std.specs.List.{list_any}
use Rattle.std.specs.List.Sorted.{IsStrictlyIncreasing}
use Rattle.std.proofs.Math.Bool.{or-true}
use Rattle.std.proofs.lemmas.Bool.{cases_lt}
use Rattle.std.proofs.lemmas.List.{length_push, map-append, take_all, take-append-le}
use Rattle.std.proofs.lemmas.List.Elements.{All-push}
use Rattle.std.proofs.lemmas.List.Folds.{find-append, list_any-append}
use Rattle.std.proofs.lemmas.List.Sums.{sum_by_push}
use Rattle.std.proofs.lemmas.Option.{get_or_from_slice_get, same_Some, slice_get_within}
use Rattle.dbp_plan.specs.ListItems.{front_place, last_place}
use Rattle.dbp_load.specs.Listed.{first_items}

module _ {A : Type 0} (f : ℕ → A) where
  pub listed-more : (n : ℕ) → first_items f (n + 1) ≡ first_items f n ++ f n ∷ []
  listed-more n = let next : n + 1 ≡ suc n = omega arith in ap (first_items f) next

  pub length-listed : (n : ℕ) → length (first_items f n) ≡ n
  length-listed zero = omega arith
  length-listed (suc n) = omega (arith, length-listed n, length_push (first_items f n) (f n))

  pub listed-at : (n i : ℕ) → i < n → slice_get (first_items f n) i ≡ Some (f i)
  listed-at zero i below = absurd (omega arith)
  listed-at (suc n) i below = elim (cases_lt i n) [
    | inl less ↦ front_place (first_items f n) (f n ∷ []) i (omega (arith, length-listed n, less)) ∙ listed-at n i less
    | inr above ↦
        let same : i ≡ n = omega arith in
        subst (λ k. slice_get (first_items f n ++ f n ∷ []) k ≡ Some (f k)) (sym same) (last_place (first_items f n) (f n) n (sym (length-listed n)))
  ]

  -- an item that stands in the list
  pub listed-item : (n i : ℕ) (x : A) → slice_get (first_items f n) i ≡ Some x → (i < n) × (x ≡ f i)
  listed-item n i x at =
      let below : i < n = omega (arith, slice_get_within (first_items f n) i x at, length-listed n) in
      (below, same_Some x (f i) (sym at ∙ listed-at n i below))

  pub take-listed : (n i : ℕ) → i ≤ n → take i (first_items f n) ≡ first_items f i
  take-listed zero i below = let none : i ≡ 0 = omega arith in rw none refl
  take-listed (suc n) i below = elim (cases_lt i (suc n)) [
    | inl less ↦ take-append-le i (first_items f n) (f n ∷ []) (omega (arith, less, length-listed n)) ∙ take-listed n i (omega (arith, less))
    | inr above ↦
        let same : i ≡ suc n = omega arith in
        rw same (take_all (suc n) (first_items f (suc n)) (omega (arith, length-listed (suc n))))
  ]

  pub all-listed : (P : A → Type 0) (n : ℕ) → ((i : ℕ) → i < n → P (f i)) → All P (first_items f n)
  all-listed P zero each = λ k d below. absurd (omega arith)
  all-listed P (suc n) each = All-push P (first_items f n) (f n) (all-listed P n (λ i below. each i (omega arith))) (each n (omega arith))

  pub sum-listed : (count : A → ℕ) (most n : ℕ) → ((i : ℕ) → i < n → count (f i) ≤ most) → sum_by count (first_items f n) ≤ n * most
  sum-listed count most zero each = omega arith
  sum-listed count most (suc n) each =
      omega (arith, sum_by_push count (first_items f n) (f n), sum-listed count most n (λ i below. each i (omega arith)), each n (omega arith))

pub map-listed : {A B : Type 0} (g : A → B) (f : ℕ → A) (n : ℕ) → map g (first_items f n) ≡ first_items (λ i. g (f i)) n
map-listed g f zero = refl
map-listed g f (suc n) = map-append g (first_items f n) (f n ∷ []) ∙ ap (λ xs. xs ++ g (f n) ∷ []) (map-listed g f n)

-- no item passes
pub none-listed : {A : Type 0} (test : A → Bool) (f : ℕ → A) (n : ℕ) → ((i : ℕ) → i < n → test (f i) ≡ false) → list_any test (first_items f n) ≡ false
none-listed test f zero each = refl
none-listed test f (suc n) each =
    list_any-append test (first_items f n) (f n ∷ [])
    ∙ rw (none-listed test f n (λ i below. each i (omega arith)), each n (omega arith)) refl

pub some-listed : {A : Type 0} (test : A → Bool) (f : ℕ → A) (n i : ℕ) → i < n → test (f i) ≡ true → list_any test (first_items f n) ≡ true
some-listed test f zero i below passes = absurd (omega arith)
some-listed test f (suc n) i below passes = elim (cases_lt i n) [
  | inl less ↦ list_any-append test (first_items f n) (f n ∷ []) ∙ rw (some-listed test f n i less passes) refl
  | inr above ↦
      let same : i ≡ n = omega arith in
      let here : test (f n) ≡ true = subst (λ k. test (f k) ≡ true) same passes in
      list_any-append test (first_items f n) (f n ∷ []) ∙ rw here (or-true (list_any test (first_items f n)))
]

none-found : {A : Type 0} (test : A → Bool) (f : ℕ → A) (n : ℕ) → ((i : ℕ) → i < n → test (f i) ≡ false) → find test (first_items f n) ≡ None
none-found test f zero each = refl
none-found test f (suc n) each =
    find-append test (first_items f n) (f n ∷ [])
    ∙ rw (none-found test f n (λ i below. each i (omega arith)), each n (omega arith)) refl

-- the only item that passes is found
pub find-listed : {A : Type 0} (test : A → Bool) (f : ℕ → A) (n i : ℕ) → i < n → test (f i) ≡ true → ((j : ℕ) → j < n → j ≢ i → test (f j) ≡ false) → find test (first_items f n) ≡ Some (f i)
find-listed test f zero i below passes others = absurd (omega arith)
find-listed test f (suc n) i below passes others = elim (cases_lt i n) [
  | inl less ↦ find-append test (first_items f n) (f n ∷ []) ∙ rw (find-listed test f n i less passes (λ j under other. others j (omega arith) other)) refl
  | inr above ↦
      let same : i ≡ n = omega arith in
      let here : test (f n) ≡ true = subst (λ k. test (f k) ≡ true) same passes in
      find-append test (first_items f n) (f n ∷ [])
      ∙ rw (none-found test f n (λ j under. others j (omega arith) (λ e. absurd (omega arith))), here) (ap (λ k. Some (f k)) (sym same))
]

-- rising numbers
pub rising-listed : (f : ℕ → ℕ) (n : ℕ) → ((i : ℕ) → i + 1 < n → f i < f (i + 1)) → IsStrictlyIncreasing (first_items f n)
rising-listed f n up k inside =
    let below : k + 1 < n = omega (arith, inside, length-listed f n) in
    let first : get_or (first_items f n) k 0 ≡ f k = get_or_from_slice_get (first_items f n) k (f k) 0 (listed-at f n k (omega arith)) in
    let second : get_or (first_items f n) (k + 1) 0 ≡ f (k + 1) = get_or_from_slice_get (first_items f n) (k + 1) (f (k + 1)) 0 (listed-at f n (k + 1) below) in
    rw (first, second) (up k below)
