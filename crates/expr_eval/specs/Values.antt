-- The values of expressions.
use Rattle.std.specs.Prelude.{ℕ, ℤ, pos, ◌+ℤ◌, ◌-ℤ◌, ◌*ℤ◌, neg_ℤ, ◌<◌, Bool, not, ◌&&◌, ◌||◌, if◌then◌else◌, int_lt, int_le, int_div, int_rem, List, slice_index_or}
use Rattle.std.specs.Int.{saturate_signed, w64, int_min, int_max}
use Rattle.std.specs.Ordering.{int_eq}
use Rattle.dbp_plan.specs.declared.node.BinOp.{BinOp}
use Rattle.dbp_plan.specs.declared.node.BinOp.TheVariants.{Add, Sub, Mul, Div, Rem, Eq, Ne, Lt, Le, Gt, Ge, And, Or, Min, Max}
use Rattle.dbp_plan.specs.declared.node.UnOp.{UnOp}
use Rattle.dbp_plan.specs.declared.node.UnOp.TheVariants.{Neg, Not}
use Rattle.dbp_plan.specs.declared.node.Node.{Node}
use Rattle.dbp_plan.specs.declared.node.Node.TheVariants.{Var}
use Rattle.dbp_plan.specs.declared.expr.Expr.{Expr}
use Rattle.dbp_plan.specs.Expr.{tree_of}
use Rattle.dbp_plan.specs.Tree.{Tree, number, variable, unary, binary, choice}

-- the value nearest to a number
abbrev pub nearest : ℤ → ℤ
nearest z = saturate_signed w64 z

-- a value is true if it isn't 0
abbrev pub holds : ℤ → Bool
holds z = not (int_eq z (pos 0))

-- the value of a truth value
abbrev pub truth : Bool → ℤ
truth b = if b then pos 1 else pos 0

-- the quotient towards zero, 0 if the divisor is 0
abbrev pub quotient : ℤ → ℤ → ℤ
quotient a b = if holds b then nearest (int_div a b) else pos 0

-- the remainder with the dividend's sign, 0 if the divisor is 0
abbrev pub remainder : ℤ → ℤ → ℤ
remainder a b = if holds b then int_rem a b else pos 0

-- the value of an operator before its operand
abbrev pub value_of_unary : UnOp → ℤ → ℤ
value_of_unary Neg a = nearest (neg_ℤ a)
value_of_unary Not a = truth (not (holds a))

-- the value of an operator between its operands
abbrev pub value_of_binary : BinOp → ℤ → ℤ → ℤ
value_of_binary Add a b = nearest (a +ℤ b)
value_of_binary Sub a b = nearest (a -ℤ b)
value_of_binary Mul a b = nearest (a *ℤ b)
value_of_binary Div a b = quotient a b
value_of_binary Rem a b = remainder a b
value_of_binary Eq a b = truth (int_eq a b)
value_of_binary Ne a b = truth (not (int_eq a b))
value_of_binary Lt a b = truth (int_lt a b)
value_of_binary Le a b = truth (int_le a b)
value_of_binary Gt a b = truth (int_lt b a)
value_of_binary Ge a b = truth (int_le b a)
value_of_binary And a b = truth (holds a && holds b)
value_of_binary Or a b = truth (holds a || holds b)
value_of_binary Min a b = int_min a b
value_of_binary Max a b = int_max a b

-- the value of a choice: the first if the condition is true, else the second
abbrev pub value_of_choice : ℤ → ℤ → ℤ → ℤ
value_of_choice c a b = if holds c then a else b

-- the value of a tree, if the variables are places of the environment
abbrev pub tree_value : List ℤ → Tree ℕ → ℤ
tree_value env (number z) = z
tree_value env (variable v) = slice_index_or env v (pos 0)
tree_value env (unary op t) = value_of_unary op (tree_value env t)
tree_value env (binary op l r) = value_of_binary op (tree_value env l) (tree_value env r)
tree_value env (choice c y n) = value_of_choice (tree_value env c) (tree_value env y) (tree_value env n)

-- the value of an expression
abbrev pub value_of : Expr ℕ → List ℤ → ℤ
value_of e env = tree_value env (tree_of e)

-- a variable of the node is below the bound
abbrev pub VariableBelow : ℕ → Node ℕ → Type 0
VariableBelow bound (Var v) = v < bound
VariableBelow bound _ = Unit {0}
