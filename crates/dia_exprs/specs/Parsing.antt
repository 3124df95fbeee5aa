-- What the functions that read a level say of the tokens and of the nodes.
use Rattle.std.specs.Prelude.{◌≡◌, ℕ, ◌≤◌, Bool, true, false, not, ◌&&◌, List, [], ◌∷◌, ◌++◌, length, Option, Some, None}
use Rattle.std.specs.Option.{is_some}
use Rattle.dbp_plan.specs.declared.node.BinOp.{BinOp}
use Rattle.dbp_plan.specs.declared.node.UnOp.{UnOp}
use Rattle.dbp_plan.specs.declared.node.Node.{Node}
use Rattle.dbp_plan.specs.Tree.{nodes_of}
use Rattle.dia_tokens.specs.declared.token.Token.{Token}
use Rattle.dia_tokens.specs.declared.token.Token.TheVariants as token
use Rattle.dia_exprs.specs.declared.level.Level.{Level}
use Rattle.dia_exprs.specs.declared.level.Level.TheVariants.{Whole, Disjunction, Conjunction, Sum, Product}
use Rattle.dia_exprs.specs.declared.fail.ExpressionFail.{ExpressionFail}
use Rattle.dia_exprs.specs.declared.fail.ExpressionFail.TheVariants.{NoExpression, NoMemory}
use Rattle.dia_exprs.specs.Grammar.{Expression, operator, comparison, prefix}
use Rattle.dia_exprs.specs.Reading.{◌>>=◌, Place, Reader, inside_at, call_at, choice_at, reader}

-- readers, one for each number of tokens
abbrev pub Readers : Type 0
Readers = ℕ → Reader

abbrev pub of_level : Level → Readers
of_level l n = reader n l

-- what stands after a parenthesis that opens, after an operator that is called, and after `if`
abbrev pub of_inside : Readers
of_inside n = inside_at (reader n Whole)

abbrev pub of_call : BinOp → Readers
of_call o n = call_at o (reader n Whole)

abbrev pub of_choice : Readers
of_choice n = choice_at (reader n Whole)

-- the readers give this for the tokens
abbrev pub Says : Readers → List Token → Option Place → Type 0
Says r ts p = (n : ℕ) → length ts ≤ n → r n ts ≡ p

-- An expression is read at the front of the tokens, and the nodes are then these with the expression's after them.
abbrev pub HasRead : Readers → List (Node (List ℕ)) → List Token → List (Node (List ℕ)) → List Token → Type 0
HasRead r nodes ts grown rest = (x : Expression) × (grown ≡ nodes ++ nodes_of (length nodes) x) × Says r ts (Some (x, rest))

-- No expression is read at the front of the tokens. If memory ran out nothing is said.
abbrev pub HasNone : Readers → List Token → ExpressionFail → Type 0
HasNone r ts NoMemory = Unit {0}
HasNone r ts NoExpression = Says r ts None

-- the levels with operators that associate to the left
abbrev pub IsJoined : Level → Type 0
IsJoined Disjunction = Unit {0}
IsJoined Conjunction = Unit {0}
IsJoined Sum = Unit {0}
IsJoined Product = Unit {0}
IsJoined _ = ⊥

-- the operator of the level at the front, and the tokens after it
abbrev pub operator_at : Level → List Token → Option (BinOp × List Token)
operator_at l [] = None
operator_at l (t ∷ ts) = operator l t >>= λ o. Some (o, ts)

-- the comparison at the front, and the tokens after it
abbrev pub comparison_at : List Token → Option (BinOp × List Token)
comparison_at [] = None
comparison_at (t ∷ ts) = comparison t >>= λ o. Some (o, ts)

-- the prefix at the front, and the tokens after it
abbrev pub prefix_at : List Token → Option (UnOp × List Token)
prefix_at [] = None
prefix_at (t ∷ ts) = prefix t >>= λ o. Some (o, ts)

abbrev pub is_leaf : Token → Bool
is_leaf (token.Number value) = true
is_leaf (token.Name name) = true
is_leaf _ = false

-- a number or a name, with no operator of a product after it
abbrev pub is_lone : List Token → Bool
is_lone [] = false
is_lone (t ∷ []) = is_leaf t
is_lone (t ∷ u ∷ ts) = is_leaf t && not (is_some (operator Product u))
