-- Orders and values are read back from their numbers.
use Rattle.std.proofs.Common.{◌≡◌, ℕ, ℤ, pos, negsuc, ◌+◌, ◌-◌, ◌*◌, ◌/◌, ◌%◌, ◌^◌, ◌<◌, ◌≤◌, FitsSigned, w64, refl, sym, ◌∙◌, ap, arith, inl, inr}
use Rattle.std.proofs.lemmas.Bool.{cases_lt, le-ltb, lt-ltb}
use Rattle.std.proofs.lemmas.Nat.{div-add-mod', div-mul-add, mod-mul-add}
use Rattle.dbp_rules.specs.LoadedWords.{order_of, value_of_word}
use Rattle.dbp_rules.specs.SharedWords.{order_value, signed_value}
use Rattle.dbp_rules.specs.declared.parts.Order.{Order}

-- ---- orders

pub order_back : (o : Order) → o.slot < 2 ^ 32 → order_of (order_value o) ≡ o
order_back o fits =
    let turned : order_value o ≡ o.number * 2 ^ 32 + o.slot = omega arith in
    let slot : order_value o % 2 ^ 32 ≡ o.slot = ap (λ (x : ℕ). x % 2 ^ 32) turned ∙ mod-mul-add o.number (2 ^ 32) o.slot fits in
    let number : order_value o / 2 ^ 32 ≡ o.number = ap (λ (x : ℕ). x / 2 ^ 32) turned ∙ div-mul-add o.number (2 ^ 32) o.slot fits in
    λ i. record { slot = slot i; number = number i }

pub order_number : (x : ℕ) → order_value (order_of x) ≡ x
order_number x = omega (arith, div-add-mod' x (2 ^ 32))

pub order_below : (o : Order) → o.slot < 2 ^ 32 → o.number < 2 ^ 32 → order_value o < 2 ^ 64
order_below o slot number = omega arith

pub one_order : (o r : Order) → o.slot < 2 ^ 32 → r.slot < 2 ^ 32 → order_value o ≡ order_value r → o ≡ r
one_order o r fits also same = sym (order_back o fits) ∙ ap order_of same ∙ order_back r also

-- ---- values

read_low : (x : ℕ) → x < 2 ^ 63 → value_of_word x ≡ pos x
read_low x low = rw (lt-ltb x (2 ^ 63) low) refl

read_high : (x n : ℕ) → 2 ^ 63 ≤ x → 2 ^ 64 - (x + 1) ≡ n → value_of_word x ≡ negsuc n
read_high x n high is = rw (le-ltb x (2 ^ 63) high) (ap negsuc is)

pub value_back : (z : ℤ) → FitsSigned w64 z → value_of_word (signed_value z) ≡ z
value_back (pos n) fits = read_low n (omega (arith, fits.sfits))
value_back (negsuc n) fits =
    let below : n < 2 ^ 63 = omega (arith, fits.sfits) in
    read_high (2 ^ 64 - (n + 1)) n (omega arith) (omega arith)

pub value_number : (x : ℕ) → x < 2 ^ 64 → signed_value (value_of_word x) ≡ x
value_number x below = elim (cases_lt x (2 ^ 63)) [
  | inl low ↦ ap signed_value (read_low x low)
  | inr high ↦ ap signed_value (read_high x (2 ^ 64 - (x + 1)) high refl) ∙ omega arith
]

pub value_below : (z : ℤ) → FitsSigned w64 z → signed_value z < 2 ^ 64
value_below (pos n) fits = omega (arith, fits.sfits)
value_below (negsuc n) fits = omega arith
