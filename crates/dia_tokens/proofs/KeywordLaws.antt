-- A text is looked for among the keywords alone that begin as it does; and what all keywords have in common, computed from
-- their list.
use Rattle.std.proofs.Common.{◌≡◌, ℕ, ◌<◌, ◌≤◌, Bool, true, List, [], ◌∷◌, ◌∙◌, Some, None, IfSome, refl, sym, ap, arith, length, filter, inl, inr}
use Rattle.std.specs.Prelude.{◌⊎◌, nat_le}
use Rattle.std.specs.List.{find, list_all}
use Rattle.std.proofs.lemmas.Bool.{cases_Bool, and_parts}
use Rattle.std.proofs.lemmas.Bool.Decides.{nat_tests}
use Rattle.std.proofs.lemmas.Bool.Decides.{Decides-eqb}
use Rattle.std.proofs.lemmas.Slice.Eq.{bytes_eq-Decides}
use Rattle.std.specs.Prelude.{◌==◌}
use Rattle.std.specs.Str.{bytes_eq}
use Rattle.dbp_plan.proofs.Searches.{among_from as any_among_from, find-filter}
use Rattle.dia_tokens.specs.declared.token.Keyword.{Keyword}
use Rattle.dia_tokens.specs.declared.token.Keyword.TheVariants as variant
use Rattle.dia_tokens.specs.Pieces.{keyword}
use Rattle.dia_tokens.specs.Keywords.{keyword_text, all_keywords, keyword_among, keyword_of, keywords_from}

pub among_from : (first : ℕ) (others : List ℕ) → keyword_among (keywords_from first) (first ∷ others) ≡ keyword_among all_keywords (first ∷ others)
unfolding keywords_from
among_from first others = any_among_from keyword_text all_keywords first others

-- a keyword has 2 to 8 bytes
no-length : (n : ℕ) → (n < 2) ⊎ (8 < n) → filter (λ w. length (keyword_text w) == n) all_keywords ≡ []
no-length n h = grind (arith, nat_tests)

pub no_keyword : (text : List ℕ) → (length text < 2) ⊎ (8 < length text) → keyword_among all_keywords text ≡ None
no_keyword text h =
    sym (find-filter (λ w. bytes_eq (keyword_text w) text) (λ w. length (keyword_text w) == length text)
    (λ w e. (Decides-eqb _ _).1 (ap length ((bytes_eq-Decides (keyword_text w) text).0 e))) all_keywords)
    ∙ ap (λ ws. keyword_among ws text) (no-length (length text) h)

-- ---- all keywords

-- each keyword is found by its text, so it is listed
pub listed : (w : Keyword) → keyword_among all_keywords (keyword_text w) ≡ Some w
listed variant.Dbp = refl
listed _ = refl

-- a test that all elements pass is passed by one that is found
pub found-passes : {X : Type 0} (p test : X → Bool) (xs : List X) → list_all p xs ≡ true → IfSome (find test xs) (λ x. p x ≡ true)
found-passes p test [] e = tt
found-passes p test (x ∷ xs) e =
    let both = and_parts (p x) (list_all p xs) e in
    elim (cases_Bool (test x)) [
      | inl y ↦ rw y both.0
      | inr n ↦ rw n (found-passes p test xs both.1)
    ]

-- a test that the listed keywords pass is passed by each
pub each : (p : Keyword → Bool) → list_all p all_keywords ≡ true → (w : Keyword) → p w ≡ true
each p e w = rw (listed w) at (found-passes p (λ v. bytes_eq (keyword_text v) (keyword_text w)) all_keywords e)

pub keyword-again : (w : Keyword) → keyword_of (keyword_text w) ≡ keyword w
unfolding keyword_of
keyword-again w = rw (listed w) refl

pub keyword-length : (w : Keyword) → length (keyword_text w) ≤ 8
keyword-length w = let short = each (λ w. nat_le (length (keyword_text w)) 8) refl w in grind (arith, nat_tests)
