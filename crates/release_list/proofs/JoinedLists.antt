-- Two lists joined: a place stands in the first or in the second.
use Rattle.std.proofs.Common.{◌≡◌, ℕ, zero, suc, ◌⊎◌, inl, inr, List, [], ◌∷◌, ◌++◌, take, Some, refl, ap}
use Rattle.std.specs.Prelude.{slice_get}

pub record InFirst {X : Type 0} (xs ys : List X) (place : ℕ) (x : X) : Type 0 where
  pub item : slice_get xs place ≡ Some x
  pub before : take place (xs ++ ys) ≡ take place xs

pub record InSecond {X : Type 0} (xs ys : List X) (place : ℕ) (x : X) : Type 0 where
  pub rest : ℕ
  pub item : slice_get ys rest ≡ Some x
  pub before : take place (xs ++ ys) ≡ xs ++ take rest ys

pub split : {X : Type 0} (xs ys : List X) (place : ℕ) (x : X) → slice_get (xs ++ ys) place ≡ Some x → InFirst xs ys place x ⊎ InSecond xs ys place x
split [] ys place x here = inr (record { rest = place; item = here; before = refl })
split (y ∷ xs) ys zero x here = inl (record { item = here; before = refl })
split (y ∷ xs) ys (suc place) x here =
    elim (split xs ys place x here) [
      | inl first ↦ inl (record { item = first.item; before = ap (λ l. y ∷ l) first.before })
      | inr second ↦ inr (record { rest = second.rest; item = second.item; before = ap (λ l. y ∷ l) second.before })
    ]
