-- What higher tasks ask for within some ticks, by their requests and by their utilizations.
use Rattle.std.proofs.Common.{◌≡◌, ℕ, suc, ◌+◌, ◌*◌, ◌≤◌, List, [], ◌∷◌, All, ap, inl, inr, arith, add-mul, mul-le-mul_right}
use Rattle.std.specs.Prelude.{if◌then◌else◌, nat_le, sum_by}
use Rattle.std.proofs.Math.Nat.{le-mul_of_pos_right, mul_comm, mul_left_comm, mul_right_comm, mul-le-mul_left}
use Rattle.std.proofs.lemmas.Bool.{cases_Bool}
use Rattle.std.proofs.lemmas.Grind.{div_ceil_times}
use Rattle.std.proofs.lemmas.List.Sums.{sum_by-cons}
use Rattle.rta_check.specs.declared.higher.Higher.{Higher}
use Rattle.rta_check.specs.Levels.{IsHigher, higher_request, whole}
use Rattle.rta_check.specs.Requests.{div_ceil}
use Rattle.rta_check.proofs.Ceilings.{ceil_rises}

rest_of : (h : Higher) (hs : List Higher) → All IsHigher (h ∷ hs) → All IsHigher hs
rest_of h hs all = λ k d less. all (suc k) d (omega (arith, less))

first_of : (h : Higher) (hs : List Higher) → All IsHigher (h ∷ hs) → IsHigher h
first_of h hs all = all 0 h (omega arith)

-- within more ticks no less is asked for
pub request_rises : (h : Higher) (r s : ℕ) → IsHigher h → r ≤ s → higher_request r h ≤ higher_request s h
request_rises h r s is le = mul-le-mul_right h.cost (ceil_rises r s h.period is.period.0 le)

pub requests_rise : (hs : List Higher) (r s : ℕ) → All IsHigher hs → r ≤ s → sum_by (higher_request r) hs ≤ sum_by (higher_request s) hs
requests_rise [] r s all le = omega arith
requests_rise (h ∷ hs) r s all le =
    omega (
      arith,
      request_rises h r s (first_of h hs all) le,
      requests_rise hs r s (rest_of h hs all) le,
      sum_by-cons (higher_request r) h hs,
      sum_by-cons (higher_request s) h hs,
    )

-- the utilization of s ticks is at most what is asked for within them
pub utilization_asked : (h : Higher) (s : ℕ) → IsHigher h → h.utilization * s ≤ higher_request s h * whole
utilization_asked h s is =
    let q = div_ceil s h.period in
    let spread : h.utilization * s ≤ h.utilization * (q * h.period) = mul-le-mul_left h.utilization (div_ceil_times s h.period is.period.0).0 in
    let often : h.utilization * h.period * q ≤ h.cost * whole * q = mul-le-mul_right q is.utilization in
    let left : h.utilization * (q * h.period) ≡ h.utilization * h.period * q = omega (arith, mul_left_comm h.utilization q h.period, mul_comm q (h.utilization * h.period)) in
    let right : h.cost * whole * q ≡ q * h.cost * whole = omega (arith, mul_right_comm h.cost whole q, ap (λ n. n * whole) (mul_comm h.cost q)) in
    omega (arith, spread, often, left, right)

-- what a task asks for within some ticks, if its period is longer than the longest that is counted by its utilization
abbrev pub asked_by : ℕ → ℕ → Higher → ℕ
asked_by ticks longest h = if nat_le h.period longest then 0 else higher_request ticks h

-- its utilization, if it is counted by it
abbrev pub used_by : ℕ → Higher → ℕ
used_by longest h = if nat_le h.period longest then h.utilization else 0

one_asked : (h : Higher) (ticks longest s : ℕ) → IsHigher h → ticks ≤ s → asked_by ticks longest h * whole + used_by longest h * s ≤ higher_request s h * whole
one_asked h ticks longest s is le = elim (cases_Bool (nat_le h.period longest)) [
  | inl short ↦ rw short (omega (arith, utilization_asked h s is))
  | inr long ↦ rw long (omega (arith, mul-le-mul_right whole (request_rises h ticks s is le)))
]

-- both together are at most what is asked for
pub all_asked : (hs : List Higher) (ticks longest s : ℕ) → All IsHigher hs → ticks ≤ s
    → sum_by (asked_by ticks longest) hs * whole + sum_by (used_by longest) hs * s ≤ sum_by (higher_request s) hs * whole
all_asked [] ticks longest s all le = omega arith
all_asked (h ∷ hs) ticks longest s all le =
    let asked = ap (λ n. n * whole) (sum_by-cons (asked_by ticks longest) h hs) in
    let used = ap (λ n. n * s) (sum_by-cons (used_by longest) h hs) in
    let requests = ap (λ n. n * whole) (sum_by-cons (higher_request s) h hs) in
    omega (
      arith,
      one_asked h ticks longest s (first_of h hs all) le,
      all_asked hs ticks longest s (rest_of h hs all) le,
      asked,
      used,
      requests,
      add-mul (asked_by ticks longest h) (sum_by (asked_by ticks longest) hs) whole,
      add-mul (used_by longest h) (sum_by (used_by longest) hs) s,
      add-mul (higher_request s h) (sum_by (higher_request s) hs) whole,
    )

-- a utilization is at most a cost of one tick's period
pub utilization_within : (h : Higher) → IsHigher h → h.utilization ≤ 1000000000 * whole
utilization_within h is =
    let once : h.utilization ≤ h.utilization * h.period = le-mul_of_pos_right h.utilization is.period.0 in
    let most : h.cost * whole ≤ 1000000000 * whole = mul-le-mul_right whole is.cost in
    omega (arith, once, most, is.utilization)
