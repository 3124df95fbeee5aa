-- A number or a name that is a product of its own.
use Rattle.std.proofs.Common.{◌≡◌, true, not, List, [], ◌∷◌, length, Option, Some, None, refl, sym, ap, ◌∙◌, arith}
use Rattle.std.specs.Option.{is_some}
use Rattle.dbp_plan.specs.declared.node.BinOp.{BinOp}
use Rattle.dbp_plan.specs.Tree.{number, variable}
use Rattle.dia_tokens.specs.declared.token.Token.{Token}
use Rattle.dia_tokens.specs.declared.token.Token.TheVariants as token
use Rattle.dia_exprs.specs.declared.level.Level.TheVariants.{Product, Prefixed, Factor}
use Rattle.dia_exprs.specs.declared.fail.ExpressionFail.{ExpressionFail}
use Rattle.dia_exprs.specs.Grammar.{Expression, operator}
use Rattle.dia_exprs.specs.Reading.{◌>>=◌, Place, reader}
use Rattle.dia_exprs.specs.Parsing.{of_level, HasRead, HasNone, is_lone, operator_at, prefix_at}
use Rattle.dia_exprs.proofs.Complete.{more-ends}
use Rattle.dia_exprs.proofs.Steps.{Nodes, first-refused, first-read, unprefixed-refused, unprefixed-read, factor-number, factor-name, no_operator_ends}

-- no prefix begins the tokens, and what the factor leaves begins with no operator of a product
no-operator : (o : Option BinOp) (ts : List Token) → not (is_some o) ≡ true → ◌≡◌ {A = Option (BinOp × List Token)} None (o >>= λ x. Some (x, ts))
no-operator None ts e = refl
no-operator (Some x) ts e = absurd cc

after-leaf : (t : Token) (ts : List Token) → is_lone (t ∷ ts) ≡ true → None ≡ operator_at Product ts
after-leaf t [] e = refl
after-leaf (token.Number value) (u ∷ ts) e = no-operator (operator Product u) ts e
after-leaf (token.Name name) (u ∷ ts) e = no-operator (operator Product u) ts e
after-leaf (token.Keyword w) (u ∷ ts) e = absurd cc
after-leaf (token.Symbol s) (u ∷ ts) e = absurd cc

unprefixed : (ts : List Token) → is_lone ts ≡ true → None ≡ prefix_at ts
unprefixed [] e = refl
unprefixed (token.Number value ∷ ts) e = refl
unprefixed (token.Name name ∷ ts) e = refl
unprefixed (token.Keyword w ∷ []) e = absurd cc
unprefixed (token.Keyword w ∷ u ∷ ts) e = absurd cc
unprefixed (token.Symbol s ∷ []) e = absurd cc
unprefixed (token.Symbol s ∷ u ∷ ts) e = absurd cc

abbrev rest-of : Option Place → List Token
rest-of (Some p) = p.1
rest-of None = []

same-rest : (x y : Expression) (ts us : List Token) → ◌≡◌ {A = Option Place} (Some (x, ts)) (Some (y, us)) → ts ≡ us
same-rest x y ts us e = ap rest-of e

ends : (nodes out : Nodes) (ts rest : List Token) → is_lone ts ≡ true → HasRead (of_level Factor) nodes ts out rest → None ≡ operator_at Product rest
ends nodes out [] rest e r = absurd cc
ends nodes out (token.Number value ∷ us) rest e r =
    let n = length (token.Number value ∷ us) in
    let same : rest ≡ us = same-rest r.0 (number value) rest us (sym (r.2 n (omega arith)) ∙ factor-number value us n (omega arith)) in
    after-leaf (token.Number value) us e ∙ ap (operator_at Product) (sym same)
ends nodes out (token.Name name ∷ us) rest e r =
    let n = length (token.Name name ∷ us) in
    let same : rest ≡ us = same-rest r.0 (variable name) rest us (sym (r.2 n (omega arith)) ∙ factor-name name us n (omega arith)) in
    after-leaf (token.Name name) us e ∙ ap (operator_at Product) (sym same)
ends nodes out (token.Keyword w ∷ []) rest e r = absurd cc
ends nodes out (token.Keyword w ∷ u ∷ us) rest e r = absurd cc
ends nodes out (token.Symbol s ∷ []) rest e r = absurd cc
ends nodes out (token.Symbol s ∷ u ∷ us) rest e r = absurd cc

pub lone-read : (nodes out : Nodes) (ts rest : List Token) → is_lone ts ≡ true → HasRead (of_level Factor) nodes ts out rest → HasRead (of_level Product) nodes ts out rest
lone-read nodes out ts rest e r =
    let p = unprefixed-read nodes out ts rest (unprefixed ts e) r in
    let at = ends nodes out ts rest e r in (
      p.0,
      p.1,
      λ n h. let c = first-read Product Prefixed nodes out ts rest tt refl p n h in c.2 ∙ more-ends Product (reader n Prefixed) c.0 p.0 rest (no_operator_ends Product rest at),
    )

pub lone-refused : (ts : List Token) (e : ExpressionFail) → is_lone ts ≡ true → HasNone (of_level Factor) ts e → HasNone (of_level Product) ts e
lone-refused ts e lone h = first-refused Product Prefixed ts e tt refl (unprefixed-refused ts e (unprefixed ts lone) h)
