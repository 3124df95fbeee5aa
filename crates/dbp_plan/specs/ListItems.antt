-- Items of lists at their indexes.
use Rattle.std.proofs.Common.{◌≡◌, ◌≢◌, ℕ, zero, suc, ◌<◌, ◌+◌, All, List, [], ◌∷◌, ◌++◌, length, take, drop, get_or, slice_get, set, Some, refl, sym, ◌∙◌, ap, subst, arith}
use Rattle.std.specs.Prelude.{AllPairs, unwrap_or}
use Rattle.std.proofs.lemmas.Option.{get_or_from_slice_get, none-some, slice_get-get_or, slice_get_within, same_Some, unwrap_or-slice_get}

-- a place below the length has an item
pub at_place : {X : Type 0} (xs : List X) (i : ℕ) → i < length xs → (x : X) × (slice_get xs i ≡ Some x)
at_place [] i below = absurd (omega arith)
at_place (x ∷ xs) zero below = (x, refl)
at_place (x ∷ xs) (suc i) below = at_place xs i (omega arith)

-- two lists that agree at each place are one
pub same_places : {X : Type 0} (xs ys : List X) → length xs ≡ length ys
    → ((k : ℕ) (a b : X) → slice_get xs k ≡ Some a → slice_get ys k ≡ Some b → a ≡ b) → xs ≡ ys
same_places [] [] size same = refl
same_places [] (y ∷ ys) size same = absurd (omega arith)
same_places (x ∷ xs) [] size same = absurd (omega arith)
same_places (x ∷ xs) (y ∷ ys) size same =
    let tail : xs ≡ ys = same_places xs ys (omega arith) (λ k a b p q. same (suc k) a b p q) in
    let head : x ≡ y = same zero x y refl refl in
    cc

-- an element that was read
pub read_place : {X : Type 0} (xs : List X) (i : ℕ) (x : X) → i < length xs → x ≡ get_or xs i x → slice_get xs i ≡ Some x
read_place xs i x below is = slice_get-get_or xs i x below ∙ ap (λ (z : _). Some z) (sym is)

pub front_place : {X : Type 0} (xs ys : List X) (i : ℕ) → i < length xs → slice_get (xs ++ ys) i ≡ slice_get xs i
front_place [] ys i below = absurd (omega arith)
front_place (x ∷ xs) ys zero below = refl
front_place (x ∷ xs) ys (suc i) below = front_place xs ys i (omega arith)

pub last_place : {X : Type 0} (xs : List X) (y : X) (i : ℕ) → i ≡ length xs → slice_get (xs ++ y ∷ []) i ≡ Some y
last_place [] y zero is = refl
last_place [] y (suc i) is = absurd (omega arith)
last_place (x ∷ xs) y zero is = absurd (omega arith)
last_place (x ∷ xs) y (suc i) is = last_place xs y i (omega arith)

-- what holds of all items holds of the one at a place
pub all_place : {X : Type 0} (P : X → Type 0) (xs : List X) (i : ℕ) (x : X) → All P xs → slice_get xs i ≡ Some x → P x
all_place P xs i x each here = subst P (same_Some (get_or xs i x) x (sym (slice_get-get_or xs i x (slice_get_within xs i x here)) ∙ here)) (each i x (slice_get_within xs i x here))

-- two items at different places
pub pair_at : {X : Type 0} (R : X → X → Type 0) (xs : List X) (i j : ℕ) (x y : X) → AllPairs R xs → i < j → slice_get xs i ≡ Some x → slice_get xs j ≡ Some y → R x y
pair_at R xs i j x y all less at_x at_y =
    let first : get_or xs i x ≡ x = get_or_from_slice_get xs i x x at_x in
    let second : get_or xs j x ≡ y = get_or_from_slice_get xs j y x at_y in
    let pair : R (get_or xs i x) (get_or xs j x) = all i j x less (slice_get_within xs j y at_y) in
    rw (first, second) at pair

-- two lists that have the same at each place are one
pub same_list : {X : Type 0} (xs ys : List X) → length xs ≡ length ys → ((k : ℕ) → k < length xs → slice_get xs k ≡ slice_get ys k) → xs ≡ ys
same_list [] [] size same = refl
same_list [] (y ∷ ys) size same = absurd (omega arith)
same_list (x ∷ xs) [] size same = absurd (omega arith)
same_list (x ∷ xs) (y ∷ ys) size same =
    let tail : xs ≡ ys = same_list xs ys (omega arith) (λ k below. same (suc k) (omega arith)) in
    let head : Some x ≡ Some y = same 0 (omega arith) in
    cc

pub after_place : {X : Type 0} (xs ys : List X) (k : ℕ) → slice_get (xs ++ ys) (length xs + k) ≡ slice_get ys k
after_place [] ys k = ap (λ j. slice_get ys j) (omega arith)
after_place (x ∷ xs) ys k =
    let one : length (x ∷ xs) + k ≡ suc (length xs + k) = omega arith in
    ap (λ j. slice_get (x ∷ xs ++ ys) j) one ∙ after_place xs ys k

pub set_here : {X : Type 0} (xs : List X) (i : ℕ) (y : X) → i < length xs → slice_get (set xs i y) i ≡ Some y
set_here [] i y below = absurd (omega arith)
set_here (x ∷ xs) zero y below = refl
set_here (x ∷ xs) (suc i) y below = set_here xs i y (omega arith)

pub set_other : {X : Type 0} (xs : List X) (i j : ℕ) (y : X) → j ≢ i → slice_get (set xs i y) j ≡ slice_get xs j
set_other [] i j y apart = refl
set_other (x ∷ xs) zero zero y apart = absurd (apart refl)
set_other (x ∷ xs) zero (suc j) y apart = refl
set_other (x ∷ xs) (suc i) zero y apart = refl
set_other (x ∷ xs) (suc i) (suc j) y apart = set_other xs i j y (λ e. apart (ap suc e))

-- two lists that have the same at a place give the same there, whatever stands in for none
pub same_item : {X : Type 0} (xs ys : List X) (i : ℕ) (d : X) → slice_get xs i ≡ slice_get ys i → get_or xs i d ≡ get_or ys i d
same_item xs ys i d same = sym (unwrap_or-slice_get xs i d) ∙ ap (λ o. unwrap_or o d) same ∙ unwrap_or-slice_get ys i d

-- ---- before a cut, and after it

pub take_place : {X : Type 0} (xs : List X) (n i : ℕ) → i < n → slice_get (take n xs) i ≡ slice_get xs i
take_place xs zero i below = absurd (omega arith)
take_place [] (suc n) i below = refl
take_place (x ∷ xs) (suc n) zero below = refl
take_place (x ∷ xs) (suc n) (suc i) below = take_place xs n i (omega arith)

pub take_inside : {X : Type 0} (xs : List X) (n i : ℕ) (x : X) → slice_get (take n xs) i ≡ Some x → (i < n) × (slice_get xs i ≡ Some x)
take_inside xs zero i x at = absurd (none-some x at)
take_inside [] (suc n) i x at = absurd (none-some x at)
take_inside (y ∷ xs) (suc n) zero x at = (omega arith, at)
take_inside (y ∷ xs) (suc n) (suc i) x at = let rest = take_inside xs n i x at in (omega (arith, rest.0), rest.1)

pub drop_place : {X : Type 0} (xs : List X) (n i : ℕ) → slice_get (drop n xs) i ≡ slice_get xs (n + i)
drop_place xs zero i = let same : zero + i ≡ i = omega arith in ap (λ j. slice_get xs j) (sym same)
drop_place [] (suc n) i = let same : suc n + i ≡ suc (n + i) = omega arith in ap (λ j. slice_get [] j) (sym same)
drop_place (x ∷ xs) (suc n) i = let same : suc n + i ≡ suc (n + i) = omega arith in drop_place xs n i ∙ ap (λ j. slice_get (x ∷ xs) j) (sym same)
