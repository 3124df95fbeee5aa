-- Numbers within their limits.
use Rattle.std.proofs.Common.{◌≡◌, ℕ, ℤ, pos, ◌≤◌, true, subst, arith}
use Rattle.std.specs.Prelude.{int_le}
use Rattle.std.proofs.lemmas.Bool.{and_parts, and_from}
use Rattle.std.proofs.lemmas.Bool.Decides.{nat_tests}
use Rattle.std.proofs.lemmas.Int.{ints}
use Rattle.dia_lines.specs.Limits.{lies_within}

pub fits : (n least greatest : ℕ) → least ≤ n → n ≤ greatest → lies_within (pos n) least greatest ≡ true
fits n least greatest h k = and_from (int_le (pos least) (pos n)) (int_le (pos n) (pos greatest)) (grind (arith, ints, nat_tests)) (grind (arith, ints, nat_tests))

pub within : (n least greatest : ℕ) (z : ℤ) → z ≡ pos n → lies_within z least greatest ≡ true → (least ≤ n) × (n ≤ greatest)
within n least greatest z e h =
    let at : lies_within (pos n) least greatest ≡ true = subst (λ v. lies_within v least greatest ≡ true) e h in
    let each = and_parts (int_le (pos least) (pos n)) (int_le (pos n) (pos greatest)) at in
    (let k = each.0 in grind (arith, ints, nat_tests), let k = each.1 in grind (arith, ints, nat_tests))
