-- Divisions rounded up.
use Rattle.std.proofs.Common.{◌≡◌, ℕ, ◌+◌, ◌*◌, ◌<◌, ◌≤◌, inl, inr, arith, add-mul, mul-le-mul_right}
use Rattle.std.proofs.Math.Nat.{le-mul_of_pos_right}
use Rattle.std.proofs.lemmas.Bool.{cases_lt}
use Rattle.std.proofs.lemmas.Grind.{div_ceil_times}
use Rattle.rta_check.specs.Requests.{div_ceil}

pub one_more : (c n : ℕ) → (c + 1) * n ≡ c * n + n
one_more c n = omega (arith, add-mul c 1 n)

-- a count whose periods begin within r ticks is at most r over the period, rounded up
pub at_most : (q c r t : ℕ) → r ≤ q * t → c * t < r + t → c ≤ q
at_most q c r t up few = elim (cases_lt q c) [
  | inl more ↦
      let below : (q + 1) * t ≤ c * t = mul-le-mul_right t (omega (arith, more)) in
      absurd (omega (arith, up, few, below, one_more q t))
  | inr le ↦ le
]

-- of a number up to s times the divisor it is at most s
pub ceil_up_to : (a b s : ℕ) → 0 < b → a ≤ s * b → div_ceil a b ≤ s
ceil_up_to a b s some up = at_most s (div_ceil a b) a b up (div_ceil_times a b some).1

pub ceil_rises : (a c b : ℕ) → 0 < b → a ≤ c → div_ceil a b ≤ div_ceil c b
ceil_rises a c b some le = ceil_up_to a b (div_ceil c b) some (omega (arith, le, (div_ceil_times c b some).0))

pub ceil_within : (a b : ℕ) → 0 < b → div_ceil a b ≤ a
ceil_within a b some = ceil_up_to a b a some (le-mul_of_pos_right a some)
