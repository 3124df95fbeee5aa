-- Expressions that are known by their trees.
use Rattle.std.proofs.Common.{◌≡◌, ℕ, List, [], ◌∷◌, ◌++◌, length, refl, sym, ap, ◌∙◌}
use Rattle.std.specs.Prelude.{fold}
use Rattle.dbp_plan.specs.declared.expr.Expr.{Expr}
use Rattle.dbp_plan.specs.declared.node.BinOp.{BinOp}
use Rattle.dbp_plan.specs.contracts.name.Name as name
use Rattle.dbp_plan.specs.contracts.node.Node as node
use Rattle.dbp_plan.specs.Expr.{IsExprOf, tree_of, same_expr}
use Rattle.dbp_plan.specs.Tree.{Tree, binary, nodes_of, size_of}
use Rattle.dbp_plan.specs.TreeLaws.{length-nodes_of, one_tree}

pub tree-known : (e : Expr (List ℕ)) (t : Tree (List ℕ)) → IsExprOf e t → tree_of e ≡ t
tree-known e t is = one_tree 0 (tree_of e) t (sym e.tree.1 ∙ is)

pub nodes-known : (e : Expr (List ℕ)) (t : Tree (List ℕ)) → IsExprOf e t → length e.nodes ≡ size_of t
nodes-known e t is = ap length is ∙ length-nodes_of 0 t

pub binary-known : (e l r : Expr (List ℕ)) (op : BinOp) (t u : Tree (List ℕ)) → IsExprOf e (binary op (tree_of l) (tree_of r)) → IsExprOf l t → IsExprOf r u → IsExprOf e (binary op t u)
binary-known e l r op t u is left right = is ∙ λ j. nodes_of 0 (binary op (tree-known l t left j) (tree-known r u right j))

pub same-nodes : (e f : Expr (List ℕ)) → e.nodes ≡ f.nodes → e ≡ f
same-nodes e f is = same_expr (node.the_row name.the_row).coded e f is

pub fold-push : {A B : Type 0} (f : B → A → B) (b : B) (xs : List A) (x : A) → fold f b (xs ++ x ∷ []) ≡ f (fold f b xs) x
fold-push f b [] x = refl
fold-push f b (y ∷ xs) x = fold-push f (f b y) xs x
