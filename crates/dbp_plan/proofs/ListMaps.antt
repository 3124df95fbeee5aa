-- Lists that are made from the items of others.
use Rattle.std.proofs.Common.{◌≡◌, ℕ, zero, suc, ◌<◌, true, false, All, Bool, List, [], ◌∷◌, length, map, get_or, slice_get, Some, refl, ap, arith}
use Rattle.std.specs.List.{filter, flat_map}
use Rattle.std.proofs.lemmas.Option.{same_Some}

-- if no item passes the test, nothing is left
pub filter-none : {X : Type 0} (p : X → Bool) (xs : List X) → ((k : ℕ) (d : X) → k < length xs → p (get_or xs k d) ≡ false) → filter p xs ≡ []
filter-none p [] none = refl
filter-none p (x ∷ xs) none = rw (none 0 x (omega arith)) (filter-none p xs (λ k d lt. none (suc k) d (omega (arith, lt))))

-- if every item passes it, all are left
pub filter-all : {X : Type 0} (p : X → Bool) (xs : List X) → ((k : ℕ) (d : X) → k < length xs → p (get_or xs k d) ≡ true) → filter p xs ≡ xs
filter-all p [] all = refl
filter-all p (x ∷ xs) all = rw (all 0 x (omega arith)) (ap (λ ys. x ∷ ys) (filter-all p xs (λ k d lt. all (suc k) d (omega (arith, lt)))))

-- what stands at a place was made from the item there
pub from-map : {A B : Type 0} (f : A → B) (xs : List A) (i : ℕ) (y : B) → slice_get (map f xs) i ≡ Some y → (x : A) × (slice_get xs i ≡ Some x) × (f x ≡ y)
from-map f [] i y at = absurd cc
from-map f (x ∷ xs) zero y at = (x, refl, same_Some (f x) y at)
from-map f (x ∷ xs) (suc i) y at = from-map f xs i y at

-- functions that make the same list of each item make the same of all
pub same-flat_map : {A B : Type 0} (f g : A → List B) (xs : List A) → All (λ x. f x ≡ g x) xs → flat_map f xs ≡ flat_map g xs
same-flat_map f g [] same = refl
same-flat_map f g (x ∷ xs) same = rw (same 0 x (omega arith), same-flat_map f g xs (λ k d below. same (suc k) d (omega arith))) refl
