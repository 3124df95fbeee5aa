-- The tokens of an expression in canonical form.
use Rattle.std.specs.Prelude.{Bool, true, false, not, if◌then◌else◌, List, [], ◌∷◌, ◌++◌}
use Rattle.dbp_plan.specs.declared.node.BinOp.{BinOp}
use Rattle.dbp_plan.specs.declared.node.UnOp.{UnOp}
use Rattle.dbp_plan.specs.declared.node.UnOp.TheVariants as prefix_op
use Rattle.dbp_plan.specs.Operators.{notation_of}
use Rattle.dbp_plan.specs.Tree.{number, variable, unary, binary, choice}
use Rattle.dia_tokens.specs.declared.token.Token.{Token}
use Rattle.dia_tokens.specs.declared.token.Token.TheVariants.{Keyword, Name, Number, Symbol}
use Rattle.dia_tokens.specs.declared.token.Keyword.TheVariants as keyword
use Rattle.dia_tokens.specs.declared.token.Symbol.TheVariants as symbol
use Rattle.dia_exprs.specs.Grammar.{Expression, operator_token, is_call}

-- the operator before an operand
abbrev pub prefix_token : UnOp → Token
prefix_token prefix_op.Neg = Symbol symbol.Minus
prefix_token prefix_op.Not = Keyword keyword.Not

-- its root is an operator that is written as no call, or an `if`
abbrev pub is_compound : Expression → Bool
is_compound (number z) = false
is_compound (variable n) = false
is_compound (unary o x) = true
is_compound (binary o x y) = not (is_call (notation_of o))
is_compound (choice c x y) = true

abbrev pub enclosed : Bool → List Token → List Token
enclosed compound ts = if compound then Symbol symbol.Open ∷ (ts ++ Symbol symbol.Close ∷ []) else ts

-- a call of two arguments
abbrev pub call_tokens : BinOp → List Token → List Token → List Token
call_tokens o xs ys = operator_token o ∷ Symbol symbol.Open ∷ (xs ++ Symbol symbol.Comma ∷ (ys ++ Symbol symbol.Close ∷ []))

abbrev pub choice_tokens : List Token → List Token → List Token → List Token
choice_tokens cs xs ys = Keyword keyword.If ∷ (cs ++ Keyword keyword.Then ∷ (xs ++ Keyword keyword.Else ∷ ys))

-- The tokens of an expression. Operands of operators and parts of an `if` stand in parentheses if they are compound;
-- the arguments of a call don't.
abbrev pub tokens_of : Expression → List Token
tokens_of (number z) = Number z ∷ []
tokens_of (variable n) = Name n ∷ []
tokens_of (unary o x) = prefix_token o ∷ enclosed (is_compound x) (tokens_of x)
tokens_of (binary o x y) =
    if is_call (notation_of o) then call_tokens o (tokens_of x) (tokens_of y)
    else enclosed (is_compound x) (tokens_of x) ++ operator_token o ∷ enclosed (is_compound y) (tokens_of y)
tokens_of (choice c x y) = choice_tokens (enclosed (is_compound c) (tokens_of c)) (enclosed (is_compound x) (tokens_of x)) (enclosed (is_compound y) (tokens_of y))

-- an operand of an operator, or a part of an `if`
abbrev pub operand_tokens : Expression → List Token
operand_tokens x = enclosed (is_compound x) (tokens_of x)
