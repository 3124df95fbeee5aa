-- Expressions.
use Rattle.std.specs.Prelude.{◌≡◌, ◌≤◌, List, length}
use Rattle.std.specs.Coded.{Coded, coded_list}
use Rattle.std.proofs.Common.{ap}
use Rattle.std.proofs.Math.Bridge.{le_prop}
use Rattle.dbp_plan.specs.declared.expr.Expr.{Expr}
use Rattle.dbp_plan.specs.declared.limits.TheConstants.{MAX_NODES}
use Rattle.dbp_plan.specs.declared.node.Node.{Node}
use Rattle.dbp_plan.specs.Tree.{Tree, nodes_of, HasTree}
use Rattle.dbp_plan.specs.TreeLaws.{HasTree-prop}
use mathlib.Core.HLevel.{Σ_prop_path}

-- the expression's tree
abbrev pub tree_of : {V : Type 0} → Expr V → Tree V
tree_of e = e.tree.0

-- the expression is this tree: its nodes are the tree's
abbrev pub IsExprOf : {V : Type 0} → Expr V → Tree V → Type 0
IsExprOf e t = e.nodes ≡ nodes_of 0 t

-- an expression is known by its nodes
pub same_expr : {V : Type 0} → Coded (Node V) → (e f : Expr V) → e.nodes ≡ f.nodes → e ≡ f
same_expr {V} code e f p = ap made (Σ_prop_path kept p)
  where
    kept : (nodes : List (Node V)) → IsProp (HasTree nodes × (length nodes ≤ MAX_NODES))
    kept nodes =
        let tree : IsProp (HasTree nodes) = HasTree-prop (coded_list code) nodes in
        hlevel (tree, le_prop)

    made : (nodes : List (Node V)) × (HasTree nodes × (length nodes ≤ MAX_NODES)) → Expr V
    made x = record { nodes = x.0; tree = x.1.0; few = x.1.1 }
