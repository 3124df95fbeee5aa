-- Expressions that a text can have.
use Rattle.std.specs.Prelude.{ℕ, List}
use Rattle.dbp_plan.specs.declared.node.Node.{Node}
use Rattle.dbp_plan.specs.declared.node.Node.TheVariants.{Num, Var}
use Rattle.dbp_plan.specs.Tree.{Tree, number, variable, unary, binary, choice}
use Rattle.dia_tokens.specs.Printable.{IsPrintableName, IsPrintableNumber}

-- each number and each name of the tree can be printed
abbrev pub IsPrintableTree : Tree (List ℕ) → Type 0
IsPrintableTree (number z) = IsPrintableNumber z
IsPrintableTree (variable n) = IsPrintableName n
IsPrintableTree (unary op t) = IsPrintableTree t
IsPrintableTree (binary op l r) = IsPrintableTree l × IsPrintableTree r
IsPrintableTree (choice c y n) = IsPrintableTree c × IsPrintableTree y × IsPrintableTree n

-- a number or a name of the node can be printed
abbrev pub IsPrintableNode : Node (List ℕ) → Type 0
IsPrintableNode (Num z) = IsPrintableNumber z
IsPrintableNode (Var n) = IsPrintableName n
IsPrintableNode _ = Unit {0}
