-- Expressions as trees, and their nodes in post-order.
use Rattle.std.specs.Prelude.{◌≡◌, ℕ, ℤ, ◌+◌, ◌-◌, List, [], ◌∷◌, ◌++◌}
use Rattle.dbp_plan.specs.declared.node.BinOp.{BinOp}
use Rattle.dbp_plan.specs.declared.node.UnOp.{UnOp}
use Rattle.dbp_plan.specs.declared.node.Node.{Node}
use Rattle.dbp_plan.specs.declared.node.Node.TheVariants.{Num, Var, Un, Bin, Pick}

-- an expression over variables of the type V
pub data Tree (V : Type 0) : Type 0 where
  number : ℤ → Tree V
  variable : V → Tree V
  unary : UnOp → Tree V → Tree V
  binary : BinOp → Tree V → Tree V → Tree V
  choice : Tree V → Tree V → Tree V → Tree V

-- how many nodes it has
abbrev pub size_of : {V : Type 0} → Tree V → ℕ
size_of (number z) = 1
size_of (variable v) = 1
size_of (unary op t) = size_of t + 1
size_of (binary op l r) = size_of l + size_of r + 1
size_of (choice c y n) = size_of c + size_of y + size_of n + 1

-- the root's node, if the tree's first node stands at this place: each operand's root is its last node
abbrev pub root_of : {V : Type 0} → ℕ → Tree V → Node V
root_of at (number z) = Num z
root_of at (variable v) = Var v
root_of at (unary op t) = Un op (at + size_of t - 1)
root_of at (binary op l r) = Bin op (at + size_of l - 1) (at + size_of l + size_of r - 1)
root_of at (choice c y n) =
    Pick (at + size_of c - 1) (at + size_of c + size_of y - 1) (at + size_of c + size_of y + size_of n - 1)

-- its nodes in post-order, the first of which stands at this place: the operands' nodes one after another, then the root
abbrev pub nodes_of : {V : Type 0} → ℕ → Tree V → List (Node V)
nodes_of at (number z) = root_of at (number z) ∷ []
nodes_of at (variable v) = root_of at (variable v) ∷ []
nodes_of at (unary op t) = nodes_of at t ++ root_of at (unary op t) ∷ []
nodes_of at (binary op l r) = nodes_of at l ++ nodes_of (at + size_of l) r ++ root_of at (binary op l r) ∷ []
nodes_of at (choice c y n) =
    nodes_of at c ++ nodes_of (at + size_of c) y ++ nodes_of (at + size_of c + size_of y) n ++ root_of at (choice c y n) ∷ []

-- the nodes are those of a tree
abbrev pub HasTree : {V : Type 0} → List (Node V) → Type 0
HasTree {V} nodes = (t : Tree V) × (nodes ≡ nodes_of 0 t)
