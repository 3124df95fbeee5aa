-- What a result says of the tokens.
use Rattle.std.specs.Prelude.{ℕ, List, Result, Ok, Err}
use Rattle.dbp_plan.specs.declared.expr.Expr.{Expr}
use Rattle.dbp_plan.specs.Expr.{IsExprOf}
use Rattle.dia_tokens.specs.declared.token.Token.{Token}
use Rattle.dia_exprs.specs.declared.level.Level.TheVariants.{Whole}
use Rattle.dia_exprs.specs.declared.fail.ExpressionFail.{ExpressionFail}
use Rattle.dia_exprs.specs.declared.fail.ExpressionFail.TheVariants.{NoExpression, NoMemory}
use Rattle.dia_exprs.specs.Grammar.{Expression, Spells}

-- the tokens spell no expression at all
abbrev pub SpellsNone : List Token → Type 0
SpellsNone ts = (t : Expression) → Spells Whole ts t → ⊥

-- the tokens spell the expression that is held
abbrev pub IsSpelled : List Token → Expr (List ℕ) → Type 0
IsSpelled ts e = (t : Expression) × Spells Whole ts t × IsExprOf e t

-- the result holds the expression, unless memory ran out
abbrev pub Gives : Expression → Result (Expr (List ℕ)) ExpressionFail → Type 0
Gives t (Ok e) = IsExprOf e t
Gives t (Err NoMemory) = Unit {0}
Gives t (Err NoExpression) = ⊥
