-- From where response times are sought.
use Rattle.std.proofs.Common.{◌≡◌, ℕ, ◌+◌, ◌*◌, ◌-◌, ◌<◌, ◌≤◌, refl, ap, arith, add-mul, mul-le-mul_right}
use Rattle.std.specs.Prelude.{sum_by}
use Rattle.std.proofs.Math.Nat.{le_of_mul-le-mul_right, mul_comm}
use Rattle.rta_check.specs.declared.level.Level.{Level}
use Rattle.rta_check.specs.Levels.{IsLevel, IsStart, higher_request, level_request, whole}
use Rattle.rta_check.specs.Requests.{div_ceil}
use Rattle.rta_check.proofs.Ceilings.{ceil_up_to}
use Rattle.rta_check.proofs.HigherTasks.{all_asked, asked_by, requests_rise, used_by}

pub whole-is : whole ≡ 18446744073709551616
unfolding whole
whole-is = refl

-- s ticks, at least so many, within which no more is asked for; tasks with a period up to the longest count by their utilizations
module _ (l : Level) (ticks longest s : ℕ) (level : IsLevel l) (from : ticks ≤ s) (enough : level_request l s ≤ s) where
  abbrev pub asked : ℕ
  asked = l.cost + sum_by (asked_by ticks longest) l.higher.items

  abbrev pub used : ℕ
  used = sum_by (used_by longest) l.higher.items

  left_over : asked * whole + used * s ≤ s * whole
  left_over =
      let served : level_request l s * whole ≤ s * whole = mul-le-mul_right whole enough in
      omega (
        arith,
        served,
        all_asked l.higher.items ticks longest s level.each from,
        add-mul l.cost (sum_by (asked_by ticks longest) l.higher.items) whole,
        add-mul l.cost (sum_by (higher_request s) l.higher.items) whole,
      )

  pub asked_within : asked ≤ s
  asked_within = le_of_mul-le-mul_right {m = asked} {n = s} {k = whole} (omega (arith, left_over)) (omega (arith, whole-is))

  pub not_all_used : whole ≤ used → ⊥
  not_all_used all =
      let taken : whole * s ≤ used * s = mul-le-mul_right s all in
      let some : 1 * whole ≤ asked * whole = mul-le-mul_right whole (omega (arith, level.cost.0)) in
      omega (arith, left_over, taken, some, mul_comm whole s, whole-is)

  pub later : used < whole → div_ceil (asked * whole) (whole - used) ≤ s
  later less =
      let rest = whole - used in
      let parts : rest + used ≡ whole = omega (arith, less) in
      let split : s * whole ≡ rest * s + used * s = omega (arith, mul_comm s whole, ap (λ n. n * s) parts, add-mul rest used s) in
      ceil_up_to (asked * whole) rest s (omega (arith, less)) (omega (arith, left_over, split, mul_comm s rest))

-- a start's request bound is a start
pub next_start : (l : Level) (r : ℕ) → IsLevel l → IsStart l r → IsStart l (level_request l r)
next_start l r level start = λ s some within enough. omega (arith, enough, requests_rise l.higher.items r s level.each (start s some within enough))

-- a start within the period within which no more is asked for is its own request bound
pub start_solves : (l : Level) (r : ℕ) → IsLevel l → IsStart l r → r ≤ l.period → level_request l r ≤ r → r ≡ level_request l r
start_solves l r level start within enough =
    let q = level_request l r in
    let again : level_request l q ≤ q = omega (arith, requests_rise l.higher.items q r level.each enough) in
    omega (arith, enough, start q (omega (arith, level.cost.0)) (omega (arith, enough, within)) again)
