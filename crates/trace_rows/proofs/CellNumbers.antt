-- The numbers in cells of digits.
use Rattle.std.proofs.Common.{◌≡◌, ℕ, zero, suc, ℤ, pos, neg_ℤ, ◌+◌, ◌-◌, ◌*◌, ◌<◌, ◌≤◌, ◌^◌, Bool, true, false, List, [], ◌∷◌, length, drop, get_or, Option, Some, None, refl, sym, ap, ◌∙◌, subst, arith, inl, inr, w64}
use mir.Val.{SFits}
use Rattle.std.specs.Prelude.{not, nat_le, nat_lt, ◌&&◌, is_some}
use Rattle.std.specs.List.{list_all}
use Rattle.std.specs.Option.{SomeIff}
use Rattle.std.proofs.Math.Bool.{and-false, or-true}
use Rattle.std.proofs.Math.Nat.{pow-le-pow_right}
use Rattle.std.proofs.lemmas.Grind.{pow_more}
use Rattle.std.proofs.lemmas.Bool.{cases_Bool, and_parts, both_ways}
use Rattle.std.proofs.lemmas.Bool.Decides.{nat_tests}
use Rattle.std.proofs.lemmas.List.{drop_all, drop_more}
use Rattle.dia_tokens.specs.Kinds.{is_digit}
use Rattle.dia_tokens.specs.Lexes.{Passes}
use Rattle.dia_tokens.specs.Values.{digits_after, digits_value, is_negative, number_of}
use Rattle.dia_tokens.proofs.ByteLaws.{digit-bounds}
use Rattle.trace_rows.specs.declared.cell.Kind.TheVariants.{Value}
use Rattle.trace_rows.specs.Cells.{is_empty, are_digits, cell_fits, is_number, is_time, value_in}
use Rattle.trace_rows.specs.Columns.{negative_in, positive_in}

-- ---- digit by digit

-- the digits from a place on decide, after the number so far
abbrev pub DigitsFrom : List ℕ → ℕ → ℕ → Type 0
DigitsFrom digits k number = (list_all is_digit digits ≡ list_all is_digit (drop k digits)) × (digits_value digits ≡ digits_after number (drop k digits))

-- whether they are digits alone, if any, that make a number up to 2 ^ 63
abbrev pub are_narrow : List ℕ → Bool
are_narrow digits = list_all is_digit digits && nat_le (digits_value digits) (2 ^ 63)

pub digits-later : (digits : List ℕ) (k number : ℕ) → k < length digits → is_digit (get_or digits k 0) ≡ true → DigitsFrom digits k number
    → DigitsFrom digits (k + 1) (number * 10 + (get_or digits k 0 - 48))
digits-later digits k number below digit from =
    (from.0 ∙ rw (drop_more digits k 0 below, digit) refl, from.1 ∙ ap (digits_after number) (drop_more digits k 0 below))

-- a byte that is no digit
pub digits-other : (digits : List ℕ) (k number : ℕ) → k < length digits → is_digit (get_or digits k 0) ≡ false → DigitsFrom digits k number → list_all is_digit digits ≡ false
digits-other digits k number below other from = from.0 ∙ rw (drop_more digits k 0 below, other) refl

pub other-wide : (digits : List ℕ) → list_all is_digit digits ≡ false → are_narrow digits ≡ false
other-wide digits none = ap (λ all. all && nat_le (digits_value digits) (2 ^ 63)) none

grows : (digits : List ℕ) (number : ℕ) → number ≤ digits_after number digits
grows [] number = omega arith
grows (d ∷ digits) number = let more = grows digits (number * 10 + (d - 48)) in omega (arith, more)

pub digits-many : (digits : List ℕ) (k number : ℕ) → k < length digits → 922337203685477580 < number → DigitsFrom digits k number → are_narrow digits ≡ false
digits-many digits k number below many from =
    let is : digits_value digits ≡ digits_after (number * 10 + (get_or digits k 0 - 48)) (drop (k + 1) digits) = from.1 ∙ ap (digits_after number) (drop_more digits k 0 below) in
    let more = grows (drop (k + 1) digits) (number * 10 + (get_or digits k 0 - 48)) in
    let past : 2 ^ 63 < digits_value digits = omega (arith, is, more, many) in
    let test : nat_le (digits_value digits) (2 ^ 63) ≡ false = grind (arith, nat_tests) in
    ap (λ b. list_all is_digit digits && b) test ∙ and-false (list_all is_digit digits)

pub digits-all : (digits : List ℕ) (k number : ℕ) → length digits ≤ k → DigitsFrom digits k number → (list_all is_digit digits ≡ true) × (number ≡ digits_value digits)
digits-all digits k number end from =
    let rest : drop k digits ≡ [] = drop_all k digits end in
    (from.0 ∙ ap (list_all is_digit) rest, sym (from.1 ∙ ap (digits_after number) rest))

-- ---- a few digits

pub tenfold : (k number digit : ℕ) → number < 10 ^ k → digit < 10 → number * 10 + digit < 10 ^ (k + 1)
tenfold k number digit below small =
    let more : 10 ^ (k + 1) ≡ 10 ^ k * 10 = pow_more 10 k in
    omega (arith, more, below, small)

pub few-fit : (k number : ℕ) → k < 18 → number < 10 ^ k → number < 10 ^ 17
few-fit k number few below =
    let some : 0 < 10 = omega arith in
    let fewer : k ≤ 17 = omega (arith, few) in
    let least : 10 ^ k ≤ 10 ^ 17 = pow-le-pow_right some fewer in
    omega (arith, least, below)

-- whether they are digits alone, at least one, that make a number up to 2 ^ 63
abbrev pub is_narrow : List ℕ → Bool
is_narrow digits = are_digits digits && nat_le (digits_value digits) (2 ^ 63)

-- ---- times

passes : (bs : List ℕ) → list_all is_digit bs ≡ true → Passes is_digit bs
passes [] h = tt
passes (b ∷ bs) h = let both = and_parts (is_digit b) (list_all is_digit bs) h in (both.0, passes bs both.1)

-- digits alone aren't negative
pub digits-alone : (cell : List ℕ) → are_digits cell ≡ true → is_negative cell ≡ false
digits-alone [] h = refl
digits-alone (b ∷ bs) h =
    let all = passes (b ∷ bs) (and_parts (not (is_empty (b ∷ bs))) (list_all is_digit (b ∷ bs)) h).1 in
    let first = digit-bounds b all.0 in
    grind (arith, nat_tests)

pub time-there : (cell : List ℕ) (time : ℕ) → are_digits cell ≡ true → time ≡ digits_value cell → time < 2 ^ 63 → is_time cell ≡ true
time-there cell time h is below =
    let test : nat_lt (digits_value cell) (2 ^ 63) ≡ true = rw is at (let less : nat_lt time (2 ^ 63) ≡ true = grind (arith, nat_tests) in less) in
    rw (h, digits-alone cell h) test

pub time-past : (cell : List ℕ) (time : ℕ) → are_digits cell ≡ true → time ≡ digits_value cell → 2 ^ 63 ≤ time → is_time cell ≡ false
time-past cell time h is past =
    let test : nat_lt (digits_value cell) (2 ^ 63) ≡ false = rw is at (let more : nat_lt time (2 ^ 63) ≡ false = grind (arith, nat_tests) in more) in
    rw (h, digits-alone cell h) test

pub no-time : (cell : List ℕ) → is_narrow cell ≡ false → is_time cell ≡ false
no-time cell wide =
    elim (cases_Bool (are_digits cell)) [
      | inl h ↦
          let past : nat_le (digits_value cell) (2 ^ 63) ≡ false = rw h at wide in
          let test : nat_lt (digits_value cell) (2 ^ 63) ≡ false = grind (arith, nat_tests) in
          rw (h, digits-alone cell h) test
      | inr n ↦ rw n refl
    ]

-- ---- values

pub no-positive : (digits : List ℕ) → is_narrow digits ≡ false → None ≡ positive_in digits
no-positive digits wide =
    elim (cases_Bool (are_digits digits)) [
      | inl h ↦
          let past : nat_le (digits_value digits) (2 ^ 63) ≡ false = rw h at wide in
          let test : nat_lt (digits_value digits) (2 ^ 63) ≡ false = grind (arith, nat_tests) in
          rw (h, test) refl
      | inr n ↦ rw n refl
    ]

pub no-negative : (digits : List ℕ) → is_narrow digits ≡ false → None ≡ negative_in digits
no-negative digits wide = rw wide refl

pub positive-is : (digits : List ℕ) (number : ℕ) (sum : ℤ) (read : Option ℤ) → are_digits digits ≡ true → number ≡ digits_value digits → sum ≡ pos number → SomeIff read (SFits w64 sum) sum
    → read ≡ positive_in digits
positive-is digits number sum (Some value) h is same fits =
    let narrow : SFits w64 (pos number) = subst (SFits w64) same fits.0 in
    let below : number < 2 ^ 63 = narrow.sfits in
    let test : nat_lt number (2 ^ 63) ≡ true = grind (arith, nat_tests) in
    rw (h, sym is, test) (ap Some (fits.1 ∙ same))
positive-is digits number sum None h is same wide =
    elim (cases_Bool (nat_lt number (2 ^ 63))) [
      | inl less ↦
          let below : number < 2 ^ 63 = grind (arith, nat_tests) in
          let narrow : SFits w64 (pos number) = record { sfits = below } in
          absurd (wide (subst (SFits w64) (sym same) narrow))
      | inr test ↦ rw (h, sym is, test) refl
    ]

fits-below-zero : (number : ℕ) → number ≤ 2 ^ 63 → SFits w64 (neg_ℤ (pos number))
fits-below-zero zero h = record { sfits = omega arith }
fits-below-zero (suc n) h = record { sfits = omega (arith, h) }

below-zero-fits : (number : ℕ) → SFits w64 (neg_ℤ (pos number)) → number ≤ 2 ^ 63
below-zero-fits zero f = omega arith
below-zero-fits (suc n) f = let less = f.sfits in omega (arith, less)

pub negative-is : (digits : List ℕ) (number : ℕ) (rest : ℤ) (read : Option ℤ) → are_digits digits ≡ true → number ≡ digits_value digits → rest ≡ neg_ℤ (pos number) → SomeIff read (SFits w64 rest) rest
    → read ≡ negative_in digits
negative-is digits number rest (Some value) h is same fits =
    let low : number ≤ 2 ^ 63 = below-zero-fits number (subst (SFits w64) same fits.0) in
    let test : nat_le number (2 ^ 63) ≡ true = grind (arith, nat_tests) in
    rw (h, sym is, test) (ap Some (fits.1 ∙ same))
negative-is digits number rest None h is same wide =
    elim (cases_Bool (nat_le number (2 ^ 63))) [
      | inl less ↦
          let low : number ≤ 2 ^ 63 = grind (arith, nat_tests) in
          absurd (wide (subst (SFits w64) (sym same) (fits-below-zero number low)))
      | inr test ↦ rw (h, sym is, test) refl
    ]

pub value-negative : (cell digits : List ℕ) → is_negative cell ≡ true → digits ≡ drop 1 cell → negative_in digits ≡ value_in cell
value-negative cell digits minus is = rw (is, minus) refl

pub value-positive : (cell : List ℕ) → is_negative cell ≡ false → positive_in cell ≡ value_in cell
value-positive cell plain = rw plain refl

-- ---- inputs' cells

pub empty-fits : (cell : List ℕ) → is_empty cell ≡ true → (cell_fits Value cell ≡ true) × (None ≡ value_in cell)
empty-fits [] h = (refl, refl)
empty-fits (b ∷ cell) h = absurd (both_ways _ (let full : is_empty (b ∷ cell) ≡ false = grind (arith, nat_tests) in full) h)

pub some-fits : (cell : List ℕ) (value : Option ℤ) → value ≡ value_in cell → is_some value ≡ true → (cell_fits Value cell ≡ true) × (value ≡ value_in cell)
some-fits cell value is some =
    elim (cases_Bool (is_number cell)) [
      | inl y ↦ (rw y (or-true (is_empty cell)), is)
      | inr n ↦ absurd (let none : value ≡ None = is ∙ rw n refl in cc (none, some))
    ]

pub none-fits : (cell : List ℕ) (value : Option ℤ) → is_empty cell ≡ false → value ≡ value_in cell → is_some value ≡ false → cell_fits Value cell ≡ false
none-fits cell value full is none =
    elim (cases_Bool (is_number cell)) [
      | inl y ↦ absurd (let some : value ≡ Some (number_of cell) = is ∙ rw y refl in cc (none, some))
      | inr n ↦ rw (full, n) refl
    ]
