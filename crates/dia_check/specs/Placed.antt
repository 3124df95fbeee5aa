-- Expressions over places for expressions over names.
use Rattle.std.specs.Prelude.{◌≡◌, ℕ, ◌+◌, ◌≤◌, List, [], ◌∷◌, ◌++◌, map}
use Rattle.std.proofs.Common.{refl, sym, ◌∙◌, ap, subst}
use Rattle.std.proofs.lemmas.List.{map-append, length-map}
use Rattle.dbp_plan.specs.declared.node.Node.{Node}
use Rattle.dbp_plan.specs.declared.node.Node.TheVariants.{Num, Var, Un, Bin, Pick}
use Rattle.dbp_plan.specs.declared.expr.Expr.{Expr}
use Rattle.dbp_plan.specs.declared.limits.TheConstants.{MAX_NODES}
use Rattle.dbp_plan.specs.Tree.{Tree, number, variable, unary, binary, choice, size_of, root_of, nodes_of}
use Rattle.dbp_plan.specs.NameLists.{index_of}

-- the node with the place of its name
abbrev pub placed_node : List (List ℕ) → Node (List ℕ) → Node ℕ
placed_node names (Num z) = Num z
placed_node names (Var n) = Var (index_of names n)
placed_node names (Un op a) = Un op a
placed_node names (Bin op a b) = Bin op a b
placed_node names (Pick c a b) = Pick c a b

abbrev pub placed_tree : List (List ℕ) → Tree (List ℕ) → Tree ℕ
placed_tree names (number z) = number z
placed_tree names (variable n) = variable (index_of names n)
placed_tree names (unary op t) = unary op (placed_tree names t)
placed_tree names (binary op l r) = binary op (placed_tree names l) (placed_tree names r)
placed_tree names (choice c x y) = choice (placed_tree names c) (placed_tree names x) (placed_tree names y)

same-size : (names : List (List ℕ)) (t : Tree (List ℕ)) → size_of (placed_tree names t) ≡ size_of t
same-size names (number z) = refl
same-size names (variable n) = refl
same-size names (unary op t) = ap (λ n. n + 1) (same-size names t)
same-size names (binary op l r) = rw (same-size names l, same-size names r) refl
same-size names (choice c x y) = rw (same-size names c, same-size names x, same-size names y) refl

pub placed-nodes : (names : List (List ℕ)) (at : ℕ) (t : Tree (List ℕ)) → map (placed_node names) (nodes_of at t) ≡ nodes_of at (placed_tree names t)
placed-nodes names at (number z) = refl
placed-nodes names at (variable n) = refl
placed-nodes names at (unary op t) = map-append (placed_node names) (nodes_of at t) (root_of at (unary op t) ∷ []) ∙ rw (placed-nodes names at t, same-size names t) refl
placed-nodes names at (binary op l r) =
    map-append (placed_node names) (nodes_of at l ++ nodes_of (at + size_of l) r) (root_of at (binary op l r) ∷ [])
    ∙ rw (map-append (placed_node names) (nodes_of at l) (nodes_of (at + size_of l) r), placed-nodes names at l, placed-nodes names (at + size_of l) r, same-size names l, same-size names r) refl
placed-nodes names at (choice c x y) =
    map-append (placed_node names) (nodes_of at c ++ nodes_of (at + size_of c) x ++ nodes_of (at + size_of c + size_of x) y) (root_of at (choice c x y) ∷ [])
    ∙ rw (
      map-append (placed_node names) (nodes_of at c ++ nodes_of (at + size_of c) x) (nodes_of (at + size_of c + size_of x) y),
      map-append (placed_node names) (nodes_of at c) (nodes_of (at + size_of c) x),
      placed-nodes names at c,
      placed-nodes names (at + size_of c) x,
      placed-nodes names (at + size_of c + size_of x) y,
      same-size names c,
      same-size names x,
      same-size names y,
    ) refl

-- the expression with the place of each name among these
pub placed_expr : List (List ℕ) → Expr (List ℕ) → Expr ℕ
placed_expr names e = record {
  nodes = map (placed_node names) e.nodes;
  tree = (placed_tree names e.tree.0, ap (map (placed_node names)) e.tree.1 ∙ placed-nodes names 0 e.tree.0);
  few = subst (λ n. n ≤ MAX_NODES) (sym (length-map e.nodes (placed_node names))) e.few;
}

pub nodes-of-placed : (names : List (List ℕ)) (e : Expr (List ℕ)) → (placed_expr names e).nodes ≡ map (placed_node names) e.nodes
unfolding placed_expr
nodes-of-placed names e = refl
