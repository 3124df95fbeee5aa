-- How operators between two operands are written, and the list of them.
use Rattle.std.specs.Prelude.{List, [], ◌∷◌}
use Rattle.dbp_plan.specs.declared.node.BinOp.{BinOp}
use Rattle.dbp_plan.specs.declared.node.BinOp.TheVariants.{Add, Sub, Mul, Div, Rem, Eq, Ne, Lt, Le, Gt, Ge, And, Or, Min, Max}
use Rattle.dbp_plan.specs.declared.node.Notation.{Notation}
use Rattle.dbp_plan.specs.declared.node.Notation.TheVariants as notation

-- at the level of `or`, `and`, a comparison, a sum or a product; any other as a call
abbrev pub notation_of : BinOp → Notation
notation_of Or = notation.Disjunction
notation_of And = notation.Conjunction
notation_of Eq = notation.Comparison
notation_of Ne = notation.Comparison
notation_of Lt = notation.Comparison
notation_of Le = notation.Comparison
notation_of Gt = notation.Comparison
notation_of Ge = notation.Comparison
notation_of Add = notation.Sum
notation_of Sub = notation.Sum
notation_of Mul = notation.Product
notation_of Div = notation.Product
notation_of Rem = notation.Product
notation_of _ = notation.Call

abbrev pub all_operators : List BinOp
all_operators = Add ∷ Sub ∷ Mul ∷ Div ∷ Rem ∷ Eq ∷ Ne ∷ Lt ∷ Le ∷ Gt ∷ Ge ∷ And ∷ Or ∷ Min ∷ Max ∷ []
