-- Searches of lists.
use Rattle.std.proofs.Common.{◌≡◌, ℕ, zero, suc, ◌<◌, Bool, true, cond, eqb, List, [], ◌∷◌, filter, length, get_or, take, Some, refl, ap, inl, inr, ⊎_elim, arith}
use Rattle.std.specs.Prelude.{◌==◌}
use Rattle.std.specs.List.{find}
use Rattle.std.specs.Str.{bytes_eq}
use Rattle.std.proofs.lemmas.Bool.{cases_Bool, eq-eqb, eqb-true, false≢true, or_cases, or_left, or_right}
use Rattle.std.proofs.lemmas.Bool.Decides.{Decides-eqb}
use Rattle.std.proofs.lemmas.Slice.Eq.{bytes_eq-Decides}
use Rattle.dbp_plan.specs.Numbers.{is_in}

-- what is found among those that pass a wider test is found among all
pub find-filter : {X : Type 0} (test wide : X → Bool) → ((x : X) → test x ≡ true → wide x ≡ true) → (xs : List X) → find test (filter wide xs) ≡ find test xs
find-filter test wide within [] = refl
find-filter test wide within (x ∷ xs) = elim (cases_Bool (wide x)) [
  | inl passes ↦ rw passes (ap (λ o. cond (test x) (Some x) o) (find-filter test wide within xs))
  | inr fails ↦ elim (cases_Bool (test x)) [
    | inl is ↦ absurd (cc (within x is))
    | inr isnt ↦ rw (fails, isnt) (find-filter test wide within xs)
  ]
]

-- a text is found among those items alone whose texts begin as it does
pub among_from : {X : Type 0} (text_of : X → List ℕ) (xs : List X) (first : ℕ) (others : List ℕ)
    → find (λ x. bytes_eq (text_of x) (first ∷ others)) (filter (λ x. get_or (text_of x) 0 0 == first) xs) ≡ find (λ x. bytes_eq (text_of x) (first ∷ others)) xs
among_from text_of xs first others =
    find-filter (λ x. bytes_eq (text_of x) (first ∷ others)) (λ x. get_or (text_of x) 0 0 == first)
    (λ x e. (Decides-eqb _ _).1 (ap (λ (l : List ℕ). get_or l 0 0) ((bytes_eq-Decides (text_of x) (first ∷ others)).0 e))) xs

-- ---- whether a number is in a list

-- a number among the first ones stands at a place before their end
pub in_place : (xs : List ℕ) (j i : ℕ) → is_in (take j xs) i ≡ true → (k : ℕ) × (k < j) × (k < length xs) × (get_or xs k 0 ≡ i)
in_place xs zero i is = absurd (false≢true is)
in_place [] (suc j) i is = absurd (false≢true is)
in_place (x ∷ xs) (suc j) i is =
    ⊎_elim
    (λ (e : eqb x i ≡ true). (0, omega arith, omega arith, eqb-true x i e))
    (λ (e : is_in (take j xs) i ≡ true). let k = in_place xs j i e in (suc k.0, (let a = k.1 in omega (arith, a)), (let a = k.2 in omega (arith, a)), k.3))
    (or_cases (eqb x i) (is_in (take j xs) i) is)

-- what stands at a place is in the list
pub in_from : (xs : List ℕ) (k : ℕ) → k < length xs → is_in xs (get_or xs k 0) ≡ true
in_from [] k lt = absurd (omega (arith, lt))
in_from (x ∷ xs) zero lt = or_left (eqb x x) (is_in xs x) (eq-eqb x x refl)
in_from (x ∷ xs) (suc k) lt = or_right (eqb x (get_or xs k 0)) (is_in xs (get_or xs k 0)) (in_from xs k (omega (arith, lt)))
