-- Ranges of two lists joined.
use Rattle.std.proofs.Common.{◌≡◌, ℕ, ◌+◌, ◌-◌, ◌≤◌, List, ◌++◌, length, take, drop, ◌∙◌, ap, arith, length-drop}
use Rattle.std.specs.Prelude.{slice_range}
use Rattle.std.proofs.Math.Seq.{drop-append_seam}
use Rattle.std.proofs.lemmas.List.{drop-append-le, take-append-le, take_all}

-- a range of the first list
pub range_front : {X : Type 0} (xs ys : List X) (a b : ℕ) → a ≤ b → b ≤ length xs → slice_range (xs ++ ys) a b ≡ slice_range xs a b
range_front xs ys a b less inside =
    let few : b - a ≤ length (drop a xs) = omega (arith, length-drop a xs) in
    ap (take (b - a)) (drop-append-le a xs ys (omega arith)) ∙ take-append-le (b - a) (drop a xs) ys few

-- the second list
pub range_after : {X : Type 0} (xs ys : List X) (a b : ℕ) → a ≡ length xs → b ≡ length xs + length ys → slice_range (xs ++ ys) a b ≡ ys
range_after xs ys a b first last =
    ap (λ (k : ℕ). take (b - a) (drop k (xs ++ ys))) first ∙ ap (take (b - a)) (drop-append_seam xs ys) ∙ take_all (b - a) ys (omega arith)
