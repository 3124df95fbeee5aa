-- Sums over the same instances, item by item.
use Rattle.std.proofs.Common.{◌≡◌, ℕ, ◌+◌, ◌<◌, ◌≤◌, List, [], ◌∷◌, refl, subst, inl, inr, ⊎_elim, arith}
use Rattle.std.specs.Prelude.{sum_by}
use Rattle.std.proofs.lemmas.Bool.{cases_lt}
use Rattle.std.proofs.lemmas.List.Sums.{sum_by-cons, sum_by-le-sum_by}
use Rattle.rank_order.specs.Instances.{Instance}
use Rattle.rank_order.proofs.SomeService.{Among}

-- if the one sum is less, it is less at one of the instances
pub sum_less : (f g : Instance → ℕ) (xs : List Instance) → sum_by f xs < sum_by g xs → (x : Instance) × Among xs x × (f x < g x)
sum_less f g [] less = absurd (omega (arith, less))
sum_less f g (x ∷ xs) less = elim (cases_lt (f x) (g x)) [
  | inl here ↦ (x, inl refl, here)
  | inr not_here ↦
      let rest = sum_less f g xs (omega (arith, less, not_here, sum_by-cons f x xs, sum_by-cons g x xs)) in
      (rest.0, inr rest.1, rest.2)
]

-- if none is more and one is less, the sum is less
pub sum_more : (f g : Instance → ℕ) (xs : List Instance) (z : Instance) → ((x : Instance) → f x ≤ g x) → Among xs z → f z + 1 ≤ g z → sum_by f xs + 1 ≤ sum_by g xs
sum_more f g [] z all none more = absurd none
sum_more f g (x ∷ xs) z all among more = ⊎_elim
    (λ (same : z ≡ x).
    let here : f x + 1 ≤ g x = subst (λ (y : Instance). f y + 1 ≤ g y) same more in
    omega (arith, here, sum_by-cons f x xs, sum_by-cons g x xs, sum_by-le-sum_by f g xs all))
    (λ rest. omega (arith, all x, sum_by-cons f x xs, sum_by-cons g x xs, sum_more f g xs z all rest more))
    among
