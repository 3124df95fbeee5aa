-- Numbers in a row: what is found among them, and what is kept of them.
use Rattle.std.proofs.Common.{◌≡◌, ℕ, zero, suc, ◌+◌, ◌<◌, Bool, true, false, [], ◌∷◌, ◌++◌, Some, None, refl, sym, ap, ◌∙◌, inl, inr, arith}
use Rattle.std.specs.Prelude.{filter, map}
use Rattle.std.specs.List.{find, range_with_len}
use Rattle.std.proofs.lemmas.Bool.{cases_Bool}
use Rattle.std.proofs.lemmas.List.{append-nil, map-append}
use Rattle.std.proofs.lemmas.List.Elements.{filter-append}
use Rattle.std.proofs.lemmas.Option.{none-some, same_Some}

range_push : (a n : ℕ) → range_with_len a (suc n) ≡ range_with_len a n ++ (a + n) ∷ []
range_push a zero = let same : a ≡ a + zero = omega arith in ap (λ k. k ∷ []) same
range_push a (suc n) =
    let same : a + 1 + n ≡ a + suc n = omega arith in
    ap (λ xs. a ∷ xs) (range_push (a + 1) n ∙ ap (λ k. range_with_len (a + 1) n ++ k ∷ []) same)

pub range-more : (n : ℕ) → range_with_len 0 (n + 1) ≡ range_with_len 0 n ++ n ∷ []
range-more n =
    let next : n + 1 ≡ suc n = omega arith in
    let here : 0 + n ≡ n = omega arith in
    ap (range_with_len 0) next ∙ range_push 0 n ∙ ap (λ k. range_with_len 0 n ++ k ∷ []) here

-- ---- one more is kept, or not

pub kept-more : (p : ℕ → Bool) (n : ℕ) → p n ≡ true → filter p (range_with_len 0 (n + 1)) ≡ filter p (range_with_len 0 n) ++ n ∷ []
kept-more p n passes = ap (filter p) (range-more n) ∙ filter-append p (range_with_len 0 n) (n ∷ []) ∙ rw passes refl

pub dropped-more : (p : ℕ → Bool) (n : ℕ) → p n ≡ false → filter p (range_with_len 0 (n + 1)) ≡ filter p (range_with_len 0 n)
dropped-more p n fails = ap (filter p) (range-more n) ∙ filter-append p (range_with_len 0 n) (n ∷ []) ∙ rw fails (append-nil (filter p (range_with_len 0 n)))

-- ---- the first that passes

found_from : (p : ℕ → Bool) (a n i : ℕ) → i < n → p (a + i) ≡ true → ((j : ℕ) → j < i → p (a + j) ≡ false) → find p (range_with_len a n) ≡ Some (a + i)
found_from p a zero i below passes others = absurd (omega arith)
found_from p a (suc n) zero below passes others =
    let same : a + zero ≡ a = omega arith in
    let here : p a ≡ true = ap p (sym same) ∙ passes in
    rw here (ap Some (sym same))
found_from p a (suc n) (suc i) below passes others =
    let here : a + 0 ≡ a = omega arith in
    let next : a + suc i ≡ a + 1 + i = omega arith in
    let first : p a ≡ false = ap p (sym here) ∙ others 0 (omega arith) in
    rw (first, next) (found_from p (a + 1) n i (omega arith) (ap p (sym next) ∙ passes)
    (λ j less. let same : a + 1 + j ≡ a + suc j = omega arith in ap p same ∙ others (suc j) (omega arith)))

pub found-first : (p : ℕ → Bool) (n i : ℕ) → i < n → p i ≡ true → ((j : ℕ) → j < i → p j ≡ false) → find p (range_with_len 0 n) ≡ Some i
found-first p n i below passes others =
    let same : 0 + i ≡ i = omega arith in
    found_from p 0 n i below (ap p same ∙ passes) (λ j less. let here : 0 + j ≡ j = omega arith in ap p here ∙ others j less)
    ∙ ap Some same

within_from : (p : ℕ → Bool) (a n i : ℕ) → find p (range_with_len a n) ≡ Some i → i < a + n
within_from p a zero i found = absurd (none-some i found)
within_from p a (suc n) i found = elim (cases_Bool (p a)) [
  | inl passes ↦ let same : a ≡ i = same_Some a i (sym (rw passes refl) ∙ found) in omega (arith, same)
  | inr fails ↦ let rest = within_from p (a + 1) n i (sym (rw fails refl) ∙ found) in omega (arith, rest)
]

-- what is found is one of the numbers
pub found-within : (p : ℕ → Bool) (n i : ℕ) → find p (range_with_len 0 n) ≡ Some i → i < n
found-within p n i found = let below = within_from p 0 n i found in omega (arith, below)

none_from : (p : ℕ → Bool) (a n : ℕ) → ((j : ℕ) → j < n → p (a + j) ≡ false) → find p (range_with_len a n) ≡ None
none_from p a zero none = refl
none_from p a (suc n) none =
    let here : a + 0 ≡ a = omega arith in
    let first : p a ≡ false = ap p (sym here) ∙ none 0 (omega arith) in
    rw first (none_from p (a + 1) n (λ j less. let same : a + 1 + j ≡ a + suc j = omega arith in ap p same ∙ none (suc j) (omega arith)))

pub none-found : (p : ℕ → Bool) (n : ℕ) → ((j : ℕ) → j < n → p j ≡ false) → find p (range_with_len 0 n) ≡ None
none-found p n none = none_from p 0 n (λ j less. let here : 0 + j ≡ j = omega arith in ap p here ∙ none j less)

-- ---- the same of what is made of the numbers

module _ {A : Type 0} (f : ℕ → A) (p : A → Bool) (n : ℕ) where
  column_more : filter p (map f (range_with_len 0 (n + 1))) ≡ filter p (map f (range_with_len 0 n)) ++ filter p (f n ∷ [])
  column_more = ap (λ ns. filter p (map f ns)) (range-more n) ∙ ap (filter p) (map-append f (range_with_len 0 n) (n ∷ [])) ∙ filter-append p (map f (range_with_len 0 n)) (f n ∷ [])

  pub column-kept : p (f n) ≡ true → filter p (map f (range_with_len 0 (n + 1))) ≡ filter p (map f (range_with_len 0 n)) ++ f n ∷ []
  column-kept passes = column_more ∙ rw passes refl

  pub column-dropped : p (f n) ≡ false → filter p (map f (range_with_len 0 (n + 1))) ≡ filter p (map f (range_with_len 0 n))
  column-dropped fails = column_more ∙ rw fails (append-nil (filter p (map f (range_with_len 0 n))))

pub mapped-more : {A : Type 0} (f : ℕ → A) (n : ℕ) → map f (range_with_len 0 (n + 1)) ≡ map f (range_with_len 0 n) ++ f n ∷ []
mapped-more f n = ap (map f) (range-more n) ∙ map-append f (range_with_len 0 n) (n ∷ [])
