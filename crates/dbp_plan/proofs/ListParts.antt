-- A list before an index, at it, and after it.
use Rattle.std.proofs.Common.{◌≡◌, ℕ, zero, suc, ◌+◌, ◌<◌, ◌≤◌, List, [], ◌∷◌, ◌++◌, length, take, drop, get_or, slice_get, Some, refl, sym, ap, ◌∙◌, arith}
use Rattle.std.specs.Prelude.{replicate}
use Rattle.std.proofs.Math.Seq.{drop-cons, take-append_seam}
use Rattle.std.proofs.lemmas.List.{take_more}
use Rattle.std.proofs.lemmas.Option.{get_or_from_slice_get, slice_get_within}

pub split-at : {A : Type 0} (xs : List A) (k : ℕ) (x : A) → k < length xs → x ≡ get_or xs k x → drop k xs ≡ x ∷ drop (k + 1) xs
split-at xs k x below is =
    let next : suc k ≡ k + 1 = omega arith in
    drop-cons xs k x below ∙ ap (λ j. get_or xs k x ∷ drop j xs) next ∙ ap (λ y. y ∷ drop (k + 1) xs) (sym is)

pub take-next : {A : Type 0} (xs : List A) (k : ℕ) (x : A) → k < length xs → x ≡ get_or xs k x → take (k + 1) xs ≡ take k xs ++ x ∷ []
take-next xs k x below is = take_more xs k x below ∙ ap (λ y. take k xs ++ y ∷ []) (sym is)

pub take_push : {A : Type 0} (xs : List A) (k : ℕ) (x : A) → slice_get xs k ≡ Some x → take (k + 1) xs ≡ take k xs ++ x ∷ []
take_push xs k x at = take_more xs k x (slice_get_within xs k x at) ∙ ap (λ y. take k xs ++ y ∷ []) (get_or_from_slice_get xs k x x at)

pub nothing-after : {A : Type 0} (xs : List A) (k : ℕ) → length xs ≤ k → drop k xs ≡ []
nothing-after [] zero h = refl
nothing-after [] (suc k) h = refl
nothing-after (x ∷ xs) zero h = absurd (omega arith)
nothing-after (x ∷ xs) (suc k) h = nothing-after xs k (omega arith)

-- the item at an index, whatever stands in for none
pub at-any : (ms : List ℕ) (j d : ℕ) → j < length ms → get_or ms j d ≡ get_or ms j (get_or ms j d)
at-any [] j d h = absurd (omega arith)
at-any (m ∷ ms) zero d h = refl
at-any (m ∷ ms) (suc j) d h = at-any ms j d (omega arith)

-- a list that was written over from its front to its end is what was written
pub refilled : {A : Type 0} (n : ℕ) (xs ws : List A) → n ≡ length xs → length ws ≡ length xs → take n (ws ++ drop (length ws) xs) ≡ ws
refilled n xs ws size same =
    ap (λ rest. take n (ws ++ rest)) (nothing-after xs (length ws) (omega arith)) ∙ ap (λ k. take k (ws ++ [])) (size ∙ sym same) ∙ take-append_seam ws []

-- a list of one item has it at each index, if it stands in for none too
pub repeated : {A : Type 0} (n k : ℕ) (x : A) → get_or (replicate n x) k x ≡ x
repeated zero k x = refl
repeated (suc n) zero x = refl
repeated (suc n) (suc k) x = repeated n k x
