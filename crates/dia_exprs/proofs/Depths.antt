-- How deep parentheses stand.
use Rattle.std.proofs.Common.{◌≡◌, ℕ, ◌+◌, ◌≤◌, List, [], ◌∷◌, length, drop, suc, max, sym, ap, ◌∙◌, ◌<◌, arith, get_or}
use Rattle.std.proofs.Math.Seq.{drop-cons}
use Rattle.std.proofs.Math.Nat.{le-max_left, le-max_right, max-le}
use Rattle.dia_tokens.specs.declared.token.Token.{Token}
use Rattle.dia_exprs.specs.Counts.{opened, deepest, depth_of}

-- what holds before each token
pub record Counts (tokens : List Token) (index before most : ℕ) : Type 0 where
  pub so_far : max most (deepest before (drop index tokens)) ≡ depth_of tokens
  pub within : before ≤ most
  pub few : before ≤ index

least : (before : ℕ) (ts : List Token) → before ≤ deepest before ts
least before [] = omega arith
least before (t ∷ ts) = le-max_left before (deepest (opened before t) ts)

-- the greatest of so many numbers
joined_max : (r most before now x : ℕ) → most ≤ r → now ≤ r → r ≤ max most now → before ≤ most → now ≤ x → max r x ≡ max most (max before x)
joined_max r most before now x a b c d e =
    let inner = max before x in
    let all = max most inner in
    let m = le-max_left most inner in
    let i = le-max_right most inner in
    let y = le-max_right before x in
    let now_in : now ≤ all = omega (arith, e, y, i) in
    let both : max most now ≤ all = max-le m now_in in
    let r_in : r ≤ all = omega (arith, c, both) in
    let x_in : x ≤ all = omega (arith, y, i) in
    let up : max r x ≤ all = max-le r_in x_in in
    let s = le-max_left r x in
    let u = le-max_right r x in
    let before_in : before ≤ max r x = omega (arith, d, a, s) in
    let most_in : most ≤ max r x = omega (arith, a, s) in
    let inner_in : inner ≤ max r x = max-le before_in u in
    let down : all ≤ max r x = max-le most_in inner_in in
    omega (arith, up, down)

-- one token more
pub counted : (tokens : List Token) (index before most now r : ℕ) (t : Token) → Counts tokens index before most → index < length tokens → t ≡ get_or tokens index t → now ≡ opened before t
    → most ≤ r → now ≤ r → r ≤ max most now → max r (deepest now (drop (index + 1) tokens)) ≡ depth_of tokens
counted tokens index before most now r t c less at same a b up =
    let rest = drop (suc index) tokens in
    let front : drop index tokens ≡ t ∷ rest = drop-cons tokens index t less ∙ ap (λ (u : Token). u ∷ rest) (sym at) in
    let one : deepest before (drop index tokens) ≡ max before (deepest now rest) =
    ap (deepest before) front ∙ ap (λ (k : ℕ). max before (deepest k rest)) (sym same) in
    let after : max r (deepest now rest) ≡ max most (max before (deepest now rest)) = joined_max r most before now (deepest now rest) a b up c.within (least now rest) in
    let place : index + 1 ≡ suc index = omega arith in
    ap (λ (k : ℕ). max r (deepest now (drop k tokens))) place ∙ after ∙ sym (ap (max most) one) ∙ c.so_far
