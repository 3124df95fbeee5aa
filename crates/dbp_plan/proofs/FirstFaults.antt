-- Going over items in order, to the first that has a fault.
use Rattle.std.proofs.Common.{◌≡◌, ℕ, ◌+◌, ◌<◌, ◌≤◌, List, [], ◌∷◌, ◌++◌, length, take, drop, get_or, Bool, true, false, cond, Option, Some, None, refl, sym, ap, ◌∙◌, arith}
use Rattle.dbp_plan.specs.FirstFault.{faults_after, first_fault}
use Rattle.dbp_plan.proofs.ListParts.{at-any, nothing-after, split-at, take-next}

module _ {A F : Type 0} (fault : List A → A → Option F) (xs : List A) (ns : List ℕ) where
  -- what stands from an index on decides
  abbrev pub FirstFrom : ℕ → Type 0
  FirstFrom k = first_fault (faults_after fault [] xs ns) ≡ first_fault (faults_after fault (take k xs) (drop k xs) (drop k ns))

  from-here : (k : ℕ) (x : A) (n : ℕ) → k < length xs → k < length ns → x ≡ get_or xs k x → n ≡ get_or ns k n
      → faults_after fault (take k xs) (drop k xs) (drop k ns) ≡ (n, fault (take k xs) x) ∷ faults_after fault (take (k + 1) xs) (drop (k + 1) xs) (drop (k + 1) ns)
  from-here k x n in_xs in_ns is_x is_n = rw (split-at xs k x in_xs is_x, split-at ns k n in_ns is_n, take-next xs k x in_xs is_x) refl

  pub first-start : FirstFrom 0
  first-start = refl

  -- the item at the index has a fault
  pub first-here : (k : ℕ) (x : A) (n : ℕ) (code : F) → FirstFrom k → k < length xs → k < length ns → x ≡ get_or xs k x → n ≡ get_or ns k n → Some code ≡ fault (take k xs) x
      → Some (n, code) ≡ first_fault (faults_after fault [] xs ns)
  first-here k x n code so_far in_xs in_ns is_x is_n is = sym (so_far ∙ ap first_fault (from-here k x n in_xs in_ns is_x is_n ∙ ap (λ f. (n, f) ∷ faults_after fault (take (k + 1) xs) (drop (k + 1) xs) (drop (k + 1) ns)) (sym is)))

  pub first-later : (k : ℕ) (x : A) → FirstFrom k → k < length xs → length xs ≤ length ns → x ≡ get_or xs k x → None ≡ fault (take k xs) x → FirstFrom (k + 1)
  first-later k x so_far in_xs few is_x is =
      let n : ℕ = get_or ns k 0 in
      let in_ns : k < length ns = omega (arith, in_xs, few) in
      so_far ∙ ap first_fault (from-here k x n in_xs in_ns is_x (at-any ns k 0 in_ns) ∙ ap (λ f. (n, f) ∷ faults_after fault (take (k + 1) xs) (drop (k + 1) xs) (drop (k + 1) ns)) (sym is))

  pub first-none : (k : ℕ) → FirstFrom k → length xs ≤ k → None ≡ first_fault (faults_after fault [] xs ns)
  first-none k so_far end = sym (so_far ∙ ap (λ rest. first_fault (faults_after fault (take k xs) rest (drop k ns))) (nothing-after xs k end))

-- ---- one after another

pub first-append : {F : Type 0} (xs ys : List (ℕ × Option F)) → first_fault xs ≡ None → first_fault (xs ++ ys) ≡ first_fault ys
first-append [] ys e = refl
first-append ((n, None) ∷ xs) ys e = first-append xs ys e
first-append ((n, Some code) ∷ xs) ys e = absurd cc

pub first-front : {F : Type 0} (xs ys : List (ℕ × Option F)) (f : ℕ × F) → first_fault xs ≡ Some f → first_fault (xs ++ ys) ≡ Some f
first-front [] ys f e = absurd cc
first-front ((n, None) ∷ xs) ys f e = first-front xs ys f e
first-front ((n, Some code) ∷ xs) ys f e = e

-- ---- no fault

pub cons-none : {F : Type 0} (n : ℕ) (fault : Option F) (rest : List (ℕ × Option F)) → first_fault ((n, fault) ∷ rest) ≡ None → (fault ≡ None) × (first_fault rest ≡ None)
cons-none n None rest none = (refl, none)
cons-none n (Some fault) rest none = absurd cc

pub append-none : {F : Type 0} (xs ys : List (ℕ × Option F)) → first_fault (xs ++ ys) ≡ None → (first_fault xs ≡ None) × (first_fault ys ≡ None)
append-none [] ys none = (refl, none)
append-none ((n, None) ∷ xs) ys none = append-none xs ys none
append-none ((n, Some fault) ∷ xs) ys none = absurd cc

-- a chain of tests that gives no fault has no test that holds
pub test-none : {F : Type 0} (test : Bool) (fault : F) (rest : Option F) → cond test (Some fault) rest ≡ None → (test ≡ false) × (rest ≡ None)
test-none true fault rest none = absurd cc
test-none false fault rest none = (refl, none)
