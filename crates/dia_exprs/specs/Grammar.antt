-- Which tokens spell which expression.
use Rattle.std.specs.Prelude.{◌≡◌, ℕ, ℤ, Bool, true, false, if◌then◌else◌, List, [], ◌∷◌, ◌++◌, Option, Some, None}
use Rattle.std.specs.List.{find}
use Rattle.std.specs.Str.{bytes_eq}
use Rattle.dbp_plan.specs.declared.node.BinOp.{BinOp}
use Rattle.dbp_plan.specs.declared.node.BinOp.TheVariants as op
use Rattle.dbp_plan.specs.declared.node.Notation.{Notation}
use Rattle.dbp_plan.specs.declared.node.Notation.TheVariants as notation
use Rattle.dbp_plan.specs.declared.node.UnOp.{UnOp}
use Rattle.dbp_plan.specs.declared.node.UnOp.TheVariants as prefix_op
use Rattle.dbp_plan.specs.Operators.{all_operators, notation_of}
use Rattle.dbp_plan.specs.Tree.{Tree, number, variable, unary, binary, choice}
use Rattle.dia_tokens.specs.declared.token.Token.{Token}
use Rattle.dia_tokens.specs.declared.token.Token.TheVariants as token
use Rattle.dia_tokens.specs.declared.token.Keyword.TheVariants as keyword
use Rattle.dia_tokens.specs.declared.token.Symbol.TheVariants as symbol
use Rattle.dia_tokens.specs.Spelling.{symbol_text}
use Rattle.dia_tokens.specs.Keywords.{keyword_text}
use Rattle.dia_exprs.specs.declared.level.Level.{Level}
use Rattle.dia_exprs.specs.declared.level.Level.TheVariants.{Whole, Disjunction, Conjunction, Comparison, Sum, Product, Prefixed, Factor}

-- an expression over names, by their bytes
abbrev pub Expression : Type 0
Expression = Tree (List ℕ)

-- the next level, whose expressions also stand at this one
abbrev pub tighter : Level → Level
tighter Whole = Disjunction
tighter Disjunction = Conjunction
tighter Conjunction = Comparison
tighter Comparison = Sum
tighter Sum = Product
tighter Product = Prefixed
tighter Prefixed = Factor
tighter Factor = Factor

-- the token that an operator is written with
abbrev pub operator_token : BinOp → Token
operator_token op.Add = token.Symbol symbol.Plus
operator_token op.Sub = token.Symbol symbol.Minus
operator_token op.Mul = token.Symbol symbol.Star
operator_token op.Div = token.Symbol symbol.Slash
operator_token op.Rem = token.Symbol symbol.Percent
operator_token op.Eq = token.Symbol symbol.Equal
operator_token op.Ne = token.Symbol symbol.Unequal
operator_token op.Lt = token.Symbol symbol.Less
operator_token op.Le = token.Symbol symbol.AtMost
operator_token op.Gt = token.Symbol symbol.Greater
operator_token op.Ge = token.Symbol symbol.AtLeast
operator_token op.And = token.Keyword keyword.And
operator_token op.Or = token.Keyword keyword.Or
operator_token op.Min = token.Keyword keyword.Min
operator_token op.Max = token.Keyword keyword.Max

-- whether two tokens are the same keyword or the same symbol
abbrev pub is_same_mark : Token → Token → Bool
is_same_mark (token.Keyword v) (token.Keyword w) = bytes_eq (keyword_text v) (keyword_text w)
is_same_mark (token.Symbol s) (token.Symbol u) = bytes_eq (symbol_text s) (symbol_text u)
is_same_mark _ _ = false

-- the operator that is written with the token
unfoldable pub operator_of : Token → Option BinOp
operator_of t = find (λ o. is_same_mark t (operator_token o)) all_operators

-- whether operators of the notation are joined at the level, and associate to the left there
abbrev pub is_joined : Level → Notation → Bool
is_joined Disjunction notation.Disjunction = true
is_joined Conjunction notation.Conjunction = true
is_joined Sum notation.Sum = true
is_joined Product notation.Product = true
is_joined _ _ = false

abbrev pub is_comparison : Notation → Bool
is_comparison notation.Comparison = true
is_comparison _ = false

abbrev pub is_call : Notation → Bool
is_call notation.Call = true
is_call _ = false

-- the operator, if it is written so
abbrev pub if_written : (Notation → Bool) → Option BinOp → Option BinOp
if_written so None = None
if_written so (Some o) = if so (notation_of o) then Some o else None

-- the operator of the level that a token is between two operands
abbrev pub operator : Level → Token → Option BinOp
operator l t = if_written (is_joined l) (operator_of t)

-- the comparison that a token is
abbrev pub comparison : Token → Option BinOp
comparison t = if_written is_comparison (operator_of t)

-- the operator that a token is before an operand
abbrev pub prefix : Token → Option UnOp
prefix (token.Symbol symbol.Minus) = Some prefix_op.Neg
prefix (token.Keyword keyword.Not) = Some prefix_op.Not
prefix _ = None

-- the operator that a token is before two arguments in parentheses
abbrev pub called : Token → Option BinOp
called t = if_written is_call (operator_of t)

-- The tokens spell the expression, as one that stands at the level.
pub data Spells : Level → List Token → Expression → Type 0 where
  a_number : (value : ℤ) → Spells Factor (token.Number value ∷ []) (number value)
  a_name : (name : List ℕ) → Spells Factor (token.Name name ∷ []) (variable name)
  in_parentheses : (ts : List Token) (x : Expression) → Spells Whole ts x → Spells Factor (token.Symbol symbol.Open ∷ (ts ++ token.Symbol symbol.Close ∷ [])) x
  a_call : (t : Token) (o : BinOp) (a b : List Token) (x y : Expression) → called t ≡ Some o → Spells Whole a x → Spells Whole b y
      → Spells Factor (t ∷ token.Symbol symbol.Open ∷ (a ++ token.Symbol symbol.Comma ∷ (b ++ token.Symbol symbol.Close ∷ []))) (binary o x y)
  as_tighter : (l : Level) (ts : List Token) (x : Expression) → Spells (tighter l) ts x → Spells l ts x
  prefixed : (t : Token) (o : UnOp) (ts : List Token) (x : Expression) → prefix t ≡ Some o → Spells Prefixed ts x → Spells Prefixed (t ∷ ts) (unary o x)
  -- the left operand stands at the same level, so operators of a level associate to the left
  joined : (l : Level) (a : List Token) (t : Token) (b : List Token) (o : BinOp) (x y : Expression) → Spells l a x → operator l t ≡ Some o → Spells (tighter l) b y
      → Spells l (a ++ t ∷ b) (binary o x y)
  -- both operands are sums, so no operand of a comparison is one
  compared : (a : List Token) (t : Token) (b : List Token) (o : BinOp) (x y : Expression) → Spells Sum a x → comparison t ≡ Some o → Spells Sum b y
      → Spells Comparison (a ++ t ∷ b) (binary o x y)
  a_choice : (a b c : List Token) (x y z : Expression) → Spells Whole a x → Spells Whole b y → Spells Whole c z
      → Spells Whole (token.Keyword keyword.If ∷ (a ++ token.Keyword keyword.Then ∷ (b ++ token.Keyword keyword.Else ∷ c))) (choice x y z)
