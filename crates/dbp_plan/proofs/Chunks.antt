-- A list is what its chunks of equal length are.
use Rattle.std.proofs.Common.{◌≡◌, ℕ, zero, suc, ◌*◌, List, [], ◌∷◌, ◌++◌, length, take, drop, refl, sym, ◌∙◌, ap, arith, length-drop, take-append-drop}
use Rattle.std.specs.Simd.{first_chunks}

pub same_chunks : {X : Type 0} (n k : ℕ) (xs ys : List X) → length xs ≡ k * n → length ys ≡ k * n → first_chunks n k xs ≡ first_chunks n k ys → xs ≡ ys
same_chunks n zero [] [] size_x size_y same = refl
same_chunks n zero [] (y ∷ ys) size_x size_y same = absurd (omega (arith, size_y))
same_chunks n zero (x ∷ xs) ys size_x size_y same = absurd (omega (arith, size_x))
same_chunks n (suc k) xs ys size_x size_y same =
    let front : take n xs ≡ take n ys = cc same in
    let back : drop n xs ≡ drop n ys = same_chunks n k (drop n xs) (drop n ys) (omega (arith, size_x, length-drop n xs)) (omega (arith, size_y, length-drop n ys)) (cc same) in
    sym (take-append-drop n xs) ∙ ap (λ (l : List _). l ++ drop n xs) front ∙ ap (λ (l : List _). take n ys ++ l) back ∙ take-append-drop n ys
