-- Lists made of the items of another and of their numbers.
use Rattle.std.proofs.Common.{◌≡◌, ℕ, ◌+◌, ◌<◌, List, [], ◌∷◌, ◌++◌, length, map, take, get_or, slice_get, option_map, Some, refl, ap, sym, ◌∙◌}
use Rattle.std.specs.List.{enumerate_from}
use Rattle.std.proofs.lemmas.List.{length-map, take_more}
use Rattle.std.proofs.lemmas.List.FromFn.{length-enumerate_from}
use Rattle.std.proofs.lemmas.Option.{get_or_from_slice_get, slice_get-get_or, slice_get-map, slice_get_within}
use Rattle.dbp_plan.proofs.NumberedItems.{numbered-place}

-- what is made of the item at a place
pub made_place : {X Y : Type 0} (f : ℕ × X → Y) (xs : List X) (i : ℕ) (x : X) → slice_get xs i ≡ Some x → slice_get (map f (enumerate_from 0 xs)) i ≡ Some (f (i, x))
made_place {X} {Y} f xs i x at = slice_get-map f (enumerate_from 0 xs) i ∙ ap (λ o. option_map f o) (numbered-place xs i x at)

pub made_or : {X Y : Type 0} (f : ℕ × X → Y) (xs : List X) (i : ℕ) (e : X) (d : Y) → i < length xs → get_or (map f (enumerate_from 0 xs)) i d ≡ f (i, get_or xs i e)
made_or f xs i e d below =
    get_or_from_slice_get (map f (enumerate_from 0 xs)) i (f (i, get_or xs i e)) d (made_place f xs i (get_or xs i e) (slice_get-get_or xs i e below))

pub length-made : {X Y : Type 0} (f : ℕ × X → Y) (xs : List X) → length (map f (enumerate_from 0 xs)) ≡ length xs
length-made f xs = length-map (enumerate_from 0 xs) f ∙ length-enumerate_from 0 xs

-- a list that is made item by item
pub push_next : {Y : Type 0} (ys old : List Y) (i : ℕ) (y : Y) → slice_get ys i ≡ Some y → old ≡ take i ys → old ++ y ∷ [] ≡ take (i + 1) ys
push_next {Y} ys old i y at so_far =
    ap (λ (l : List Y). l ++ y ∷ []) so_far ∙ ap (λ (z : Y). take i ys ++ z ∷ []) (sym (get_or_from_slice_get ys i y y at)) ∙ sym (take_more ys i y (slice_get_within ys i y at))

-- a list whose items are made again, and one whose items stay
pub made_twice : {X Y Z : Type 0} (f : ℕ × X → Y) (g : ℕ × Y → Z) (h : ℕ × X → Z) → ((i : ℕ) (x : X) → g (i, f (i, x)) ≡ h (i, x)) → (from : ℕ) (xs : List X)
    → map g (enumerate_from from (map f (enumerate_from from xs))) ≡ map h (enumerate_from from xs)
made_twice f g h same from [] = refl
made_twice f g h same from (x ∷ xs) =
    let first : g (from, f (from, x)) ≡ h (from, x) = same from x in
    let rest : map g (enumerate_from (from + 1) (map f (enumerate_from (from + 1) xs))) ≡ map h (enumerate_from (from + 1) xs) = made_twice f g h same (from + 1) xs in
    cc

pub made_same : {X : Type 0} (f : ℕ × X → X) → ((i : ℕ) (x : X) → f (i, x) ≡ x) → (from : ℕ) (xs : List X) → map f (enumerate_from from xs) ≡ xs
made_same f same from [] = refl
made_same f same from (x ∷ xs) =
    let first : f (from, x) ≡ x = same from x in
    let rest : map f (enumerate_from (from + 1) xs) ≡ xs = made_same f same (from + 1) xs in
    cc
