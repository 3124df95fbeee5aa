-- Two lists side by side.
use Rattle.std.proofs.Common.{◌≡◌, ℕ, zero, suc, ◌<◌, List, [], ◌∷◌, ◌++◌, length, get_or, slice_get, Some, refl, ap, arith}
use Rattle.std.specs.Prelude.{zip}

-- an item more in each
pub zip_push : {A B : Type 0} (xs : List A) (ys : List B) (x : A) (y : B) → length xs ≡ length ys → zip (xs ++ x ∷ []) (ys ++ y ∷ []) ≡ zip xs ys ++ (x, y) ∷ []
zip_push [] [] x y same = refl
zip_push [] (b ∷ ys) x y same = absurd (omega arith)
zip_push (a ∷ xs) [] x y same = absurd (omega arith)
zip_push (a ∷ xs) (b ∷ ys) x y same = ap (λ l. (a, b) ∷ l) (zip_push xs ys x y (omega arith))

-- the pair at an index
pub zip_at : {A B : Type 0} (xs : List A) (ys : List B) (k : ℕ) (x : A) (y : B) → k < length xs → k < length ys → slice_get (zip xs ys) k ≡ Some (get_or xs k x, get_or ys k y)
zip_at [] ys k x y below beside = absurd (omega arith)
zip_at (a ∷ xs) [] k x y below beside = absurd (omega arith)
zip_at (a ∷ xs) (b ∷ ys) zero x y below beside = refl
zip_at (a ∷ xs) (b ∷ ys) (suc k) x y below beside = zip_at xs ys k x y (omega arith) (omega arith)

pub length-zip : {A B : Type 0} (xs : List A) (ys : List B) → length xs ≡ length ys → length (zip xs ys) ≡ length xs
length-zip [] [] same = refl
length-zip [] (b ∷ ys) same = absurd (omega arith)
length-zip (a ∷ xs) [] same = absurd (omega arith)
length-zip (a ∷ xs) (b ∷ ys) same = ap suc (length-zip xs ys (omega arith))
