-- Names as texts, among others, and their indexes.
use Rattle.std.proofs.Common.{◌≡◌, ℕ, ◌<◌, Bool, true, List, [], ◌∷◌, ◌++◌, length, map, get_or, refl, sym, ap, arith, ◌∙◌}
use Rattle.std.specs.Prelude.{◌||◌, IsTrue, IsUtf8}
use Rattle.std.specs.List.{flat_map, list_any}
use Rattle.std.specs.Str.{bytes_eq}
use Rattle.std.proofs.lemmas.List.Folds.{list_any-append}
use Rattle.std.proofs.lemmas.List.Sums.{passes_at_first}
use Rattle.std.proofs.lemmas.Bool.Decides.{nat_tests}
use Rattle.std.proofs.lemmas.Slice.Eq.{bytes_eq-Decides}
use Rattle.std.proofs.lemmas.Str.{IsUtf8-from_ascii}
use Rattle.std.proofs.lemmas.Str.Ascii.{IsAscii-from_all}
use Rattle.dbp_plan.specs.Name.{IsName, is_name_byte}
use Rattle.dbp_plan.specs.NameLists.{is_among, index_of}
use Rattle.dbp_plan.proofs.FirstIndexes.{first-below}

-- a letter, a digit or `_` is ASCII
ascii-byte : (b : ℕ) → IsTrue (is_name_byte b) → b < 128
ascii-byte b is = grind (arith, nat_tests)

-- so a name is text
pub name_text : (name : List ℕ) → IsName name → IsUtf8 name
name_text name is = IsUtf8-from_ascii name (IsAscii-from_all name (λ k d below. ascii-byte (get_or name k d) (is.each k d below)))

-- each name has the bytes of itself
pub same-bytes : (n : List ℕ) → bytes_eq n n ≡ true
same-bytes n = (bytes_eq-Decides n n).1 refl

-- ---- among the names of several lists, and among those of items

pub among_append : (names others : List (List ℕ)) (n : List ℕ) → is_among (names ++ others) n ≡ (is_among names n || is_among others n)
among_append names others n = list_any-append (λ m. bytes_eq m n) names others

pub among_map : {A : Type 0} (name : A → List ℕ) (n : List ℕ) (xs : List A) → is_among (map name xs) n ≡ list_any (λ x. bytes_eq (name x) n) xs
among_map name n [] = refl
among_map name n (x ∷ xs) = ap (λ b. bytes_eq (name x) n || b) (among_map name n xs)

pub among_flat_map : {A : Type 0} (names : A → List (List ℕ)) (n : List ℕ) (test : A → Bool) → ((x : A) → is_among (names x) n ≡ test x) → (xs : List A) → is_among (flat_map names xs) n ≡ list_any test xs
among_flat_map names n test each [] = refl
among_flat_map names n test each (x ∷ xs) = among_append (names x) (flat_map names xs) n ∙ rw (each x, among_flat_map names n test each xs) refl

-- ---- the index of a name

pub index-below : (names : List (List ℕ)) (n : List ℕ) → is_among names n ≡ true → index_of names n < length names
index-below names n among = first-below (λ m. bytes_eq m n) names among

pub name-at-index : (names : List (List ℕ)) (n : List ℕ) → is_among names n ≡ true → get_or names (index_of names n) [] ≡ n
name-at-index names n among = (bytes_eq-Decides (get_or names (index_of names n) []) n).0 (passes_at_first (λ m. bytes_eq m n) names [] (index-below names n among))

-- names with one index are one
pub same-index : (names : List (List ℕ)) (m n : List ℕ) → is_among names m ≡ true → is_among names n ≡ true → index_of names m ≡ index_of names n → m ≡ n
same-index names m n first second same = sym (name-at-index names m first) ∙ ap (λ k. get_or names k []) same ∙ name-at-index names n second
