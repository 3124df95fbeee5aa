-- The first index of a list whose item passes a test.
use Rattle.std.proofs.Common.{◌≡◌, ◌+◌, ◌<◌, Bool, true, cond, List, [], ◌∷◌, length, map, get_or, slice_get, Some, refl, ap, subst, arith, inl, inr}
use Rattle.std.specs.Prelude.{not}
use Rattle.std.specs.List.{list_any, position_or_len}
use Rattle.std.proofs.lemmas.Bool.{cases_Bool}
use Rattle.std.proofs.lemmas.List.Sums.{passes_at_first}
use Rattle.std.proofs.lemmas.Option.{get_or_from_slice_get, slice_get_within}

pub first-below : {A : Type 0} (test : A → Bool) (xs : List A) → list_any test xs ≡ true → position_or_len test xs < length xs
first-below test [] among = absurd cc
first-below test (x ∷ xs) among = elim (cases_Bool (test x)) [
  | inl passes ↦ rw passes (omega arith)
  | inr fails ↦
      let rest : list_any test xs ≡ true = rw fails at among in
      let below : position_or_len test xs < length xs = first-below test xs rest in
      rw fails (omega (arith, below))
]

pub first-passes : {A : Type 0} (test : A → Bool) (xs : List A) (x : A) → slice_get xs (position_or_len test xs) ≡ Some x → test x ≡ true
first-passes test xs x at =
    let first : get_or xs (position_or_len test xs) x ≡ x = get_or_from_slice_get xs (position_or_len test xs) x x at in
    subst (λ y. test y ≡ true) first (passes_at_first test xs x (slice_get_within xs (position_or_len test xs) x at))

pub first-in-map : {A B : Type 0} (test : B → Bool) (f : A → B) (xs : List A) → position_or_len test (map f xs) ≡ position_or_len (λ x. test (f x)) xs
first-in-map test f [] = refl
first-in-map test f (x ∷ xs) = ap (λ n. cond (not (test (f x))) (1 + n) 0) (first-in-map test f xs)
