-- The operands of a node.
use Rattle.std.specs.Prelude.{ℕ, ◌+◌, ◌<◌}
use Rattle.dbp_plan.specs.declared.node.Node.{Node}
use Rattle.dbp_plan.specs.declared.node.Node.TheVariants.{Num, Var, Un, Bin, Pick}

-- the operands stand at places below the bound
abbrev pub OperandsBelow : {V : Type 0} → ℕ → Node V → Type 0
OperandsBelow bound (Un op a) = a < bound
OperandsBelow bound (Bin op a b) = (a < bound) × (b < bound)
OperandsBelow bound (Pick c a b) = (c < bound) × (a < bound) × (b < bound)
OperandsBelow bound _ = Unit {0}

-- the node in a list that stands after so many nodes
abbrev pub moved_by : {V : Type 0} → ℕ → Node V → Node V
moved_by n (Num z) = Num z
moved_by n (Var v) = Var v
moved_by n (Un op a) = Un op (a + n)
moved_by n (Bin op a b) = Bin op (a + n) (b + n)
moved_by n (Pick c a b) = Pick (c + n) (a + n) (b + n)
