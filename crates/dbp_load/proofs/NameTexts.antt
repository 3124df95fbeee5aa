-- The names of generated documents are names, and no keywords.
use Rattle.std.proofs.Common.{◌≡◌, ◌≢◌, ℕ, ◌+◌, ◌/◌, ◌%◌, ◌<◌, ◌≤◌, true, false, All, List, [], ◌∷◌, ◌++◌, length, get_or, refl, sym, ap, ◌∙◌, subst, inl, inr, arith}
use Rattle.std.specs.Prelude.{◌==◌, not, IsTrue, codes, decimal}
use Rattle.std.specs.Char.{is_ascii_digit}
use Rattle.std.specs.Str.{bytes_eq}
use Rattle.std.proofs.lemmas.Bool.{cases_Bool, cases_lt, le-leb, ne_eqb}
use Rattle.std.proofs.lemmas.Fmt.{decimal_digit, decimal_injective, decimal_step}
use Rattle.std.proofs.lemmas.List.Elements.{All-cons}
use Rattle.std.proofs.lemmas.Slice.Eq.{bytes_eq-Decides}
use Rattle.dbp_plan.specs.Name.{IsName, is_name_byte}
use Rattle.dia_tokens.specs.Pieces.{name}
use Rattle.dia_tokens.specs.Printable.{IsPrintableName}
use Rattle.dia_tokens.specs.Keywords.{keyword_of}
use Rattle.dia_check.proofs.PlaceLaws.{only-one}
use Rattle.dbp_load.specs.Bodies.{task_name, read_name}

-- ---- numbers of one digit and of two

pub one-digit : (n : ℕ) → n < 10 → decimal n ≡ (48 + n % 10) ∷ []
one-digit n small = let same : n ≡ n % 10 = omega arith in decimal_digit n small ∙ ap (λ d. (48 + d) ∷ []) same

pub two-digits : (n : ℕ) → 10 ≤ n → n < 100 → decimal n ≡ (48 + n / 10) ∷ (48 + n % 10) ∷ []
two-digits n large small = decimal_step n large (omega arith) ∙ ap (λ ds. ds ++ (48 + n % 10) ∷ []) (decimal_digit (n / 10) (omega arith))

abbrev IsDigit : ℕ → Type 0
IsDigit d = (48 ≤ d) × (d ≤ 57)

record AreDigits (ds : List ℕ) : Type 0 where
  some : 0 < length ds
  few : length ds ≤ 2
  each : All IsDigit ds

digits : (n : ℕ) → n < 100 → AreDigits (decimal n)
digits n small = elim (cases_lt n 10) [
  | inl less ↦ subst AreDigits (sym (one-digit n less)) (record { some = omega arith; few = omega arith; each = only-one IsDigit (48 + n % 10) (omega arith, omega arith) })
  | inr more ↦ subst AreDigits (sym (two-digits n more small)) (record {
    some = omega arith;
    few = omega arith;
    each = All-cons IsDigit (48 + n / 10) ((48 + n % 10) ∷ []) (omega arith, omega arith) (only-one IsDigit (48 + n % 10) (omega arith, omega arith));
  })
]

-- ---- names of a letter and a number

digit-byte : (b : ℕ) → 48 ≤ b → b ≤ 57 → is_name_byte b ≡ true
digit-byte b low high = rw (le-leb 48 b low, le-leb b 57 high) refl

each-byte : (letter : ℕ) (ds : List ℕ) → is_name_byte letter ≡ true → All IsDigit ds → All (λ b. IsTrue (is_name_byte b)) (letter ∷ ds)
each-byte letter ds byte each = All-cons (λ b. IsTrue (is_name_byte b)) letter ds byte (λ k d below. let digit = each k d below in digit-byte (get_or ds k d) digit.0 digit.1)

numbered : (letter i : ℕ) → is_ascii_digit letter ≡ false → is_name_byte letter ≡ true → i < 100 → IsName (letter ∷ decimal i)
numbered letter i begins byte small =
    let is = digits i small in
    record { begins = ap not begins; each = each-byte letter (decimal i) byte is.each; fits = omega (arith, is.few) }

pub task-name : (i : ℕ) → i < 100 → IsName (task_name i)
task-name i small = numbered 116 i refl refl small

pub read-name : (j : ℕ) → j < 10 → IsName (read_name j)
read-name j small = record {
  begins = refl;
  each = each-byte 114 ((48 + j) ∷ []) refl (only-one IsDigit (48 + j) (omega arith, omega arith));
  fits = omega arith;
}

-- ---- they are no keywords

t-word : (ds : List ℕ) → 0 < length ds → get_or ds 0 0 ≤ 57 → keyword_of (116 ∷ ds) ≡ name (116 ∷ ds)
unfolding keyword_of
t-word [] some low = absurd (omega arith)
t-word (d ∷ ds) some low =
    let a : (97 == d) ≡ false = ne_eqb 97 d (λ e. absurd (omega arith)) in
    let h : (104 == d) ≡ false = ne_eqb 104 d (λ e. absurd (omega arith)) in
    let r : (114 == d) ≡ false = ne_eqb 114 d (λ e. absurd (omega arith)) in
    rw (a, h, r) refl

r-word : (ds : List ℕ) → 0 < length ds → get_or ds 0 0 ≤ 57 → keyword_of (114 ∷ ds) ≡ name (114 ∷ ds)
unfolding keyword_of
r-word [] some low = absurd (omega arith)
r-word (d ∷ ds) some low =
    let e : (101 == d) ≡ false = ne_eqb 101 d (λ e. absurd (omega arith)) in
    rw e refl

pub task-prints : (i : ℕ) → i < 100 → IsPrintableName (task_name i)
task-prints i small = let is = digits i small in (task-name i small, t-word (decimal i) is.some (is.each 0 0 is.some).1)

pub read-prints : (j : ℕ) → j < 10 → IsPrintableName (read_name j)
read-prints j small = (read-name j small, r-word ((48 + j) ∷ []) (omega arith) (omega arith))

-- ---- the other names

one-letter : (b : ℕ) → is_ascii_digit b ≡ false → is_name_byte b ≡ true → IsName (b ∷ [])
one-letter b begins byte = record { begins = ap not begins; each = only-one (λ c. IsTrue (is_name_byte c)) b byte; fits = omega arith }

pub s-name : IsName (codes "s")
s-name = one-letter 115 refl refl

pub g-name : IsName (codes "g")
g-name = one-letter 103 refl refl

pub q-name : IsName (codes "q")
q-name = one-letter 113 refl refl

pub y-name : IsName (codes "y")
y-name = one-letter 121 refl refl

pub g0-name : IsName (codes "g0")
g0-name = record {
  begins = refl;
  each = All-cons (λ c. IsTrue (is_name_byte c)) 103 (48 ∷ []) refl (only-one (λ c. IsTrue (is_name_byte c)) 48 refl);
  fits = omega arith;
}

pub s-prints : IsPrintableName (codes "s")
unfolding keyword_of
s-prints = (s-name, refl)

pub g-prints : IsPrintableName (codes "g")
unfolding keyword_of
g-prints = (g-name, refl)

pub q-prints : IsPrintableName (codes "q")
unfolding keyword_of
q-prints = (q-name, refl)

pub y-prints : IsPrintableName (codes "y")
unfolding keyword_of
y-prints = (y-name, refl)

pub g0-prints : IsPrintableName (codes "g0")
unfolding keyword_of
g0-prints = (g0-name, refl)

-- ---- names of different tasks differ

pub same-task : (i : ℕ) → bytes_eq (task_name i) (task_name i) ≡ true
same-task i = (bytes_eq-Decides (task_name i) (task_name i)).1 refl

tail : List ℕ → List ℕ
tail [] = []
tail (b ∷ bs) = bs

pub one-task : (i j : ℕ) → i < 100 → j < 100 → task_name i ≡ task_name j → i ≡ j
unfolding tail
one-task i j small other same = decimal_injective i j (omega arith) (omega arith) (ap tail same)

pub other-task : (i j : ℕ) → i < 100 → j < 100 → i ≢ j → bytes_eq (task_name i) (task_name j) ≡ false
other-task i j small other apart = elim (cases_Bool (bytes_eq (task_name i) (task_name j))) [
  | inl same ↦ absurd (apart (one-task i j small other ((bytes_eq-Decides (task_name i) (task_name j)).0 same)))
  | inr differ ↦ differ
]
