-- Items with their numbers.
use Rattle.std.proofs.Common.{◌≡◌, ℕ, zero, suc, ◌+◌, List, [], ◌∷◌, slice_get, Some, ap, ◌∙◌, arith}
use Rattle.std.specs.List.{enumerate_from}
use Rattle.std.proofs.lemmas.Option.{none-some, same_Some}

numbered-from : {X : Type 0} (from : ℕ) (xs : List X) (i : ℕ) (x : X) → slice_get xs i ≡ Some x → slice_get (enumerate_from from xs) i ≡ Some (from + i, x)
numbered-from from [] i x at = absurd (none-some x at)
numbered-from from (y ∷ xs) zero x at =
    let same : y ≡ x = same_Some y x at in
    let number : from ≡ from + 0 = omega arith in
    cc
numbered-from from (y ∷ xs) (suc i) x at =
    let number : from + 1 + i ≡ from + suc i = omega arith in
    numbered-from (from + 1) xs i x at ∙ ap (λ n. Some (n, x)) number

pub numbered-place : {X : Type 0} (xs : List X) (i : ℕ) (x : X) → slice_get xs i ≡ Some x → slice_get (enumerate_from 0 xs) i ≡ Some (i, x)
numbered-place xs i x at =
    let number : 0 + i ≡ i = omega arith in
    numbered-from 0 xs i x at ∙ ap (λ n. Some (n, x)) number
