-- Searches over numbers.
use Rattle.std.proofs.Common.{◌≡◌, ℕ, zero, suc, ◌+◌, ◌<◌, Bool, true, false, List, [], ◌∷◌, ◌++◌, length, get_or, take, filter, Option, Some, None, refl, ◌∙◌, ap, arith, inl, inr}
use Rattle.std.specs.List.{find, range_with_len}
use Rattle.std.specs.Option.{option_or}
use Rattle.std.proofs.lemmas.Bool.{cases_Bool}
use Rattle.std.proofs.lemmas.List.{map-id}
use Rattle.std.proofs.lemmas.List.Folds.{find-append}
use Rattle.std.proofs.lemmas.List.FromFn.{map-range_with_len_more}
use Rattle.dbp_plan.proofs.Searches.{find-filter}
use Rattle.dbp_rules.specs.PartyRules.{least}

-- a search that has gone past the first items
pub find_at : (f : ℕ → Bool) (xs : List ℕ) (n : ℕ) → n < length xs → find f (take n xs) ≡ None → f (get_or xs n 0) ≡ true → find f xs ≡ Some (get_or xs n 0)
find_at f [] n below none is = absurd (omega arith)
find_at f (x ∷ xs) zero below none is = rw is refl
find_at f (x ∷ xs) (suc n) below none is = elim (cases_Bool (f x)) [
  | inl here ↦ let bad : Some x ≡ None = rw here at none in absurd (cc (bad))
  | inr not_ ↦ let rest : find f (take n xs) ≡ None = rw not_ at none in rw not_ (find_at f xs n (omega arith) rest is)
]

pub find_past : (f : ℕ → Bool) (xs : List ℕ) (n : ℕ) → n < length xs → find f (take n xs) ≡ None → f (get_or xs n 0) ≡ false → find f (take (n + 1) xs) ≡ None
find_past f [] n below none isnt = absurd (omega arith)
find_past f (x ∷ xs) zero below none isnt = rw isnt refl
find_past f (x ∷ xs) (suc n) below none isnt = elim (cases_Bool (f x)) [
  | inl here ↦ let bad : Some x ≡ None = rw here at none in absurd (cc (bad))
  | inr not_ ↦ let rest : find f (take n xs) ≡ None = rw not_ at none in
      let one : suc n + 1 ≡ suc (n + 1) = omega arith in
      ap (λ (m : ℕ). find f (take m (x ∷ xs))) one ∙ rw not_ (find_past f xs n (omega arith) rest isnt)
]

-- one number more
range_more : (n : ℕ) → range_with_len 0 (suc n) ≡ range_with_len 0 n ++ n ∷ []
range_more n =
    let one : suc n ≡ n + 1 = omega arith in
    let more = map-range_with_len_more (λ (k : ℕ). k) 0 n n (omega arith) in
    let same : range_with_len 0 (n + 1) ≡ range_with_len 0 n ++ n ∷ [] = rw (map-id (range_with_len 0 (n + 1)), map-id (range_with_len 0 n)) at more in
    ap (range_with_len 0) one ∙ same

-- the first number that passes is the least one
find_least : (f : ℕ → Bool) (n : ℕ) → find f (range_with_len 0 n) ≡ least f n
find_least f zero = refl
find_least f (suc n) =
    ap (find f) (range_more n) ∙ find-append f (range_with_len 0 n) (n ∷ []) ∙ ap (λ (o : Option ℕ). option_or o (find f (n ∷ []))) (find_least f n)

pub find_among : (wide f : ℕ → Bool) (n : ℕ) → ((k : ℕ) → f k ≡ true → wide k ≡ true) → find f (filter wide (range_with_len 0 n)) ≡ least f n
find_among wide f n within = find-filter f wide within (range_with_len 0 n) ∙ find_least f n
