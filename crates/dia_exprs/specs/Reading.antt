-- Reading an expression from left to right: the expression at the front of the tokens, and the tokens after it.
use Rattle.std.specs.Prelude.{ℕ, zero, suc, List, [], ◌∷◌, length, Option, Some, None}
use Rattle.dbp_plan.specs.declared.node.BinOp.{BinOp}
use Rattle.dbp_plan.specs.Tree.{number, variable, unary, binary, choice}
use Rattle.dia_tokens.specs.declared.token.Token.{Token}
use Rattle.dia_tokens.specs.declared.token.Token.TheVariants as token
use Rattle.dia_tokens.specs.declared.token.Keyword.TheVariants as keyword
use Rattle.dia_tokens.specs.declared.token.Symbol.TheVariants as symbol
use Rattle.dia_exprs.specs.declared.level.Level.{Level}
use Rattle.dia_exprs.specs.declared.level.Level.TheVariants.{Whole, Disjunction, Conjunction, Comparison, Sum, Product, Prefixed, Factor}
use Rattle.dia_exprs.specs.Grammar.{Expression, operator, comparison, prefix, called}

infixl 10 ◌>>=◌
abbrev pub ◌>>=◌ : {A B : Type 0} → Option A → (A → Option B) → Option B
(Some x) >>= f = f x
None >>= f = None

abbrev pub Place : Type 0
Place = Expression × List Token

abbrev pub Reader : Type 0
Reader = List Token → Option Place

-- the tokens after a mark
abbrev pub if_at : List Token → Option (List Token)
if_at (token.Keyword keyword.If ∷ ts) = Some ts
if_at _ = None

abbrev pub then_at : List Token → Option (List Token)
then_at (token.Keyword keyword.Then ∷ ts) = Some ts
then_at _ = None

abbrev pub else_at : List Token → Option (List Token)
else_at (token.Keyword keyword.Else ∷ ts) = Some ts
else_at _ = None

abbrev pub open_at : List Token → Option (List Token)
open_at (token.Symbol symbol.Open ∷ ts) = Some ts
open_at _ = None

abbrev pub comma_at : List Token → Option (List Token)
comma_at (token.Symbol symbol.Comma ∷ ts) = Some ts
comma_at _ = None

abbrev pub close_at : List Token → Option (List Token)
close_at (token.Symbol symbol.Close ∷ ts) = Some ts
close_at _ = None

-- the rest of a level, for as long as an operator of it comes, at most so often
unfoldable pub more : Level → Reader → ℕ → Expression → List Token → Option Place
more l operand zero x ts = Some (x, ts)
more l operand (suc n) x [] = Some (x, [])
more l operand (suc n) x (t ∷ ts) =
    elim (operator l t) [
      | None ↦ Some (x, t ∷ ts)
      | Some o ↦ operand ts >>= λ p. more l operand n (binary o x p.0) p.1
    ]

unfoldable pub level_at : Level → Reader → Reader
level_at l operand ts = operand ts >>= λ p. more l operand (length p.1) p.0 p.1

-- the rest of a comparison, if one comes
unfoldable pub compare_rest : Reader → Expression → List Token → Option Place
compare_rest operand x [] = Some (x, [])
compare_rest operand x (t ∷ ts) =
    elim (comparison t) [
      | None ↦ Some (x, t ∷ ts)
      | Some o ↦ operand ts >>= λ p. Some (binary o x p.0, p.1)
    ]

unfoldable pub compared_at : Reader → Reader
compared_at operand ts = operand ts >>= λ p. compare_rest operand p.0 p.1

unfoldable pub prefixed_at : Reader → Reader
prefixed_at operand [] = operand []
prefixed_at operand (t ∷ ts) =
    elim (prefix t) [
      | None ↦ operand (t ∷ ts)
      | Some o ↦ prefixed_at operand ts >>= λ p. Some (unary o p.0, p.1)
    ]

-- what stands after a parenthesis that opens
unfoldable pub inside_at : Reader → Reader
inside_at whole ts = whole ts >>= λ p. close_at p.1 >>= λ rest. Some (p.0, rest)

-- two arguments in parentheses
unfoldable pub call_at : BinOp → Reader → Reader
call_at o whole ts = do
  a ← open_at ts
  x ← whole a
  b ← comma_at x.1
  y ← whole b
  rest ← close_at y.1
  Some (binary o x.0 y.0, rest)

unfoldable pub factor_of : Reader → Reader
factor_of whole (token.Number value ∷ ts) = Some (number value, ts)
factor_of whole (token.Name name ∷ ts) = Some (variable name, ts)
factor_of whole (token.Symbol symbol.Open ∷ ts) = inside_at whole ts
factor_of whole (token.Keyword w ∷ ts) =
    elim (called (token.Keyword w)) [
      | None ↦ None
      | Some o ↦ call_at o whole ts
    ]
factor_of whole _ = None

-- the levels over a reader of whole expressions
abbrev pub prefixed_in : Reader → Reader
prefixed_in whole = prefixed_at (factor_of whole)

abbrev pub product_in : Reader → Reader
product_in whole = level_at Product (prefixed_in whole)

abbrev pub sum_in : Reader → Reader
sum_in whole = level_at Sum (product_in whole)

abbrev pub comparison_in : Reader → Reader
comparison_in whole = compared_at (sum_in whole)

abbrev pub conjunction_in : Reader → Reader
conjunction_in whole = level_at Conjunction (comparison_in whole)

abbrev pub disjunction_in : Reader → Reader
disjunction_in whole = level_at Disjunction (conjunction_in whole)

-- what stands after `if`
unfoldable pub choice_at : Reader → Reader
choice_at whole ts = do
  c ← whole ts
  a ← then_at c.1
  x ← whole a
  b ← else_at x.1
  y ← whole b
  Some (choice c.0 x.0 y.0, y.1)

-- whole expressions of fewer tokens than so many
unfoldable pub whole_at : ℕ → Reader
whole_at zero ts = None
whole_at (suc n) (token.Keyword keyword.If ∷ ts) = choice_at (whole_at n) ts
whole_at (suc n) ts = disjunction_in (whole_at n) ts

-- expressions of a level, of at most so many tokens
abbrev pub reader : ℕ → Level → Reader
reader n Whole = whole_at (suc n)
reader n Disjunction = disjunction_in (whole_at n)
reader n Conjunction = conjunction_in (whole_at n)
reader n Comparison = comparison_in (whole_at n)
reader n Sum = sum_in (whole_at n)
reader n Product = product_in (whole_at n)
reader n Prefixed = prefixed_in (whole_at n)
reader n Factor = factor_of (whole_at n)
