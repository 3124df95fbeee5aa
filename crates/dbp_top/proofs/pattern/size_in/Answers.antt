use Rattle.std.proofs.Common.{◌≡◌, Some, None, refl, sym, ◌∙◌, arith, rules}
use Rattle.dbp_top.proofs.pattern.size_in.Goals as goal
use Rattle.dbp_top.proofs.pattern.size_in.Goals.{else-size-ge1-via-then-size-ge1+else-size-le32, else-size-ge1-via-else-size-ge1}

pub returns-in_err-size : goal.returns-in_err-size
returns-in_err-size c =
    let none : c.from_residual.result ≡ None = search rules in
    λ n. (λ is. absurd (let no : None ≡ Some n = sym none ∙ is in cc), λ size. absurd (let some = (c.number_in.ensures n).1 (size.0.number, size.1) in let was = c.in_err-size.was in cc))

pub returns-then-size-le32 : goal.returns-then-size-le32
returns-then-size-le32 c =
    let is = (c.in_ok-size.ensures c.in_ok-size.size).0 refl in
    λ n. (
      λ told. let same : c.in_ok-size.size ≡ n = cc in
          (record { number = is.0; least = omega (arith, is.1); most = omega (arith, is.1) }, sym same ∙ is.1),
      λ size. let same : c.in_ok-size.size ≡ n = is.1 ∙ sym size.1 in cc,
    )

pub returns-else-size-ge1 : goal.returns-else-size-ge1
returns-else-size-ge1 c =
    let is = (c.in_ok-size.ensures c.in_ok-size.size).0 refl in
    λ n. (
      λ told. absurd cc,
      λ size. let fact = size.0 in let least = fact.least in let most = fact.most in absurd (
          elim c.else-size-ge1.branch [
            | else-size-ge1-via-then-size-ge1+else-size-le32 w ↦ omega (arith, w.if-size-le32.false)
            | else-size-ge1-via-else-size-ge1 w ↦ omega (arith, w.if-size-ge1.false)
          ]),
    )
