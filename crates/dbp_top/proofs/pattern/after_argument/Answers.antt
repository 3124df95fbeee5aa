use Rattle.std.proofs.Common.{◌≡◌, ℕ, List, Some, None, refl, sym, ap, subst, ◌∙◌, rules}
use Rattle.std.specs.Str.Parse.{digits_value}
use Rattle.std.proofs.lemmas.Bool.{false≢true}
use Rattle.dbp_plan.specs.Name.{IsName}
use Rattle.dbp_top.specs.Patterns.{Fits, ArgumentForm, IsNumber, form_of, name, number, size}
use Rattle.dbp_top.proofs.ArgumentForms.{after-prefix, given-name, given-number, given-size, stripped}
use Rattle.dbp_top.proofs.pattern.after_argument.Goals as goal

pub returns-in_err-number-in-Number : goal.returns-in_err-number-in-Number
returns-in_err-number-in-Number c =
    let none : c.from_residual-in_err-number-in-Number.result ≡ None = search rules in
    let prefix = c.in-Number.prefix.now in
    let form : form_of c.args.pattern.now ≡ number prefix = ap form_of c.in-Number.is in
    let rest = c.in_ok-strip_prefix-in-Number.field-0.now in
    let split = stripped prefix c.args.argument.now rest c.in_ok-strip_prefix-in-Number.ensures.cases in
    λ after. (
      λ is. absurd (let no : None ≡ Some after = sym none ∙ is in cc),
      λ fit.
          let is : Fits (number prefix) c.args.argument.now c.args.operands after = subst (λ (f : ArgumentForm). Fits f c.args.argument.now c.args.operands after) form fit in
          let same : is.0 ≡ rest = after-prefix prefix is.0 rest (sym is.1 ∙ split) in
          let some = (c.number_in.ensures (digits_value 10 rest)).1 (subst (λ (d : List ℕ). IsNumber d) same is.2, refl) in
          let was = c.in_err-number-in-Number.was in
          absurd cc,
    )

pub returns-in_err-size-in-Size : goal.returns-in_err-size-in-Size
returns-in_err-size-in-Size c =
    let none : c.from_residual-in_err-size-in-Size.result ≡ None = search rules in
    let form : form_of c.args.pattern.now ≡ size = ap form_of c.in-Size.is in
    λ after. (
      λ is. absurd (let no : None ≡ Some after = sym none ∙ is in cc),
      λ fit.
          let is : Fits size c.args.argument.now c.args.operands after = subst (λ (f : ArgumentForm). Fits f c.args.argument.now c.args.operands after) form fit in
          let some = (c.size_in.ensures (digits_value 10 c.args.argument.now)).1 (is.0, refl) in
          let was = c.in_err-size-in-Size.was in
          absurd cc,
    )

pub returns-in_ok-number-in-Number : goal.returns-in_ok-number-in-Number
returns-in_ok-number-in-Number c =
    let prefix = c.in-Number.prefix.now in
    let rest = c.in_ok-strip_prefix-in-Number.field-0.now in
    let split = stripped prefix c.args.argument.now rest c.in_ok-strip_prefix-in-Number.ensures.cases in
    let is = (c.in_ok-number-in-Number.ensures c.in_ok-number-in-Number.number).0 refl in
    λ after. rw c.in-Number.is (given-number prefix c.args.argument.now rest c.in_ok-number-in-Number.number c.args.operands after split is)

pub returns-in_ok-size-in-Size : goal.returns-in_ok-size-in-Size
returns-in_ok-size-in-Size c =
    let is = (c.in_ok-size-in-Size.ensures c.in_ok-size-in-Size.size).0 refl in
    λ after. rw c.in-Size.is (given-size c.args.argument.now c.in_ok-size-in-Size.size c.args.operands after is)

pub returns-in_err-name-in-Name : goal.returns-in_err-name-in-Name
returns-in_err-name-in-Name c =
    let none : c.from_residual-in_err-name-in-Name.result ≡ None = search rules in
    let form : form_of c.args.pattern.now ≡ name = ap form_of c.in-Name.is in
    λ after. (
      λ is. absurd (let no : None ≡ Some after = sym none ∙ is in cc),
      λ fit.
          let is : Fits name c.args.argument.now c.args.operands after = subst (λ (f : ArgumentForm). Fits f c.args.argument.now c.args.operands after) form fit in
          let some = c.in_err-name-in-Name.ensures.exact.1 (subst (λ (n : List ℕ). IsName n) (sym c.as_bytes.ensures.value) is.0) in
          absurd (false≢true some),
    )

pub returns-in_ok-name-in-Name : goal.returns-in_ok-name-in-Name
returns-in_ok-name-in-Name c =
    let same : c.in_ok-name-in-Name.name ≡ c.args.argument.now = c.in_ok-name-in-Name.ensures.some ∙ c.as_bytes.ensures.value in
    λ after. rw c.in-Name.is (given-name c.args.argument.now c.in_ok-name-in-Name.name c.args.operands after (subst (λ (n : List ℕ). IsName n) c.as_bytes.ensures.value (c.in_ok-name-in-Name.ensures.exact.0 refl)) same)
