-- Where the nodes of a tree stand in a list of nodes.
use Rattle.std.specs.Prelude.{◌≡◌, ℕ, ◌<◌, Bool, true, false, not, List, slice_get, Some}
use Rattle.dbp_plan.specs.declared.node.Node.{Node}
use Rattle.dbp_plan.specs.declared.node.Node.TheVariants.{Num, Var, Un, Bin, Pick}
use Rattle.dia_exprs.specs.Grammar.{is_call}
use Rattle.dbp_plan.specs.Operators.{notation_of}
use Rattle.dbp_plan.specs.Tree.{Tree, number, variable, unary, binary, choice}

-- the root of the tree stands at the place, and its operands before it
abbrev pub Stands : {V : Type 0} → List (Node V) → ℕ → Tree V → Type 0
Stands nodes place (number z) = slice_get nodes place ≡ Some (Num z)
Stands nodes place (variable v) = slice_get nodes place ≡ Some (Var v)
Stands nodes place (unary op t) = (a : ℕ) × (slice_get nodes place ≡ Some (Un op a)) × (a < place) × Stands nodes a t
Stands nodes place (binary op l r) =
    (a b : ℕ) × (slice_get nodes place ≡ Some (Bin op a b)) × (a < place) × (b < place) × Stands nodes a l × Stands nodes b r
Stands nodes place (choice c y n) =
    (a b d : ℕ) × (slice_get nodes place ≡ Some (Pick a b d)) × (a < place) × (b < place) × (d < place)
    × Stands nodes a c × Stands nodes b y × Stands nodes d n

-- the node is an operator that is written as no call, or an `if`
abbrev pub is_compound_node : {V : Type 0} → Node V → Bool
is_compound_node (Num z) = false
is_compound_node (Var v) = false
is_compound_node (Un op a) = true
is_compound_node (Bin op a b) = not (is_call (notation_of op))
is_compound_node (Pick c a b) = true
