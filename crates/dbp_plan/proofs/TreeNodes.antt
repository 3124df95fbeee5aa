-- The nodes of a tree after other nodes, and the places of its operands.
use Rattle.std.proofs.Common.{◌≡◌, ℕ, zero, suc, ◌+◌, ◌-◌, ◌<◌, ◌≤◌, List, [], ◌∷◌, ◌++◌, length, map, slice_get, Some, refl, sym, ◌∙◌, ap, arith, subst, length-append}
use Rattle.std.proofs.lemmas.List.{map-append}
use Rattle.dbp_plan.specs.declared.node.BinOp.{BinOp}
use Rattle.dbp_plan.specs.declared.node.UnOp.{UnOp}
use Rattle.dbp_plan.specs.declared.node.Node.{Node}
use Rattle.dbp_plan.specs.declared.node.Node.TheVariants.{Num, Var, Un, Bin, Pick}
use Rattle.dbp_plan.specs.Tree.{Tree, number, variable, unary, binary, choice, size_of, root_of, nodes_of}
use Rattle.dbp_plan.specs.TreeLaws.{one_node, length-nodes_of}
use Rattle.dbp_plan.specs.declared.expr.Expr.{Expr}
use Rattle.dbp_plan.specs.Expr.{tree_of}
use Rattle.dbp_plan.specs.Operands.{OperandsBelow, moved_by}

-- a tree that stands after more nodes has the same nodes, moved
pub nodes_of-moved : {V : Type 0} (n at : ℕ) (t : Tree V) → map (moved_by n) (nodes_of at t) ≡ nodes_of (at + n) t
nodes_of-moved n at (number z) = refl
nodes_of-moved n at (variable v) = refl
nodes_of-moved n at (unary op t) =
    let root : at + size_of t - 1 + n ≡ at + n + size_of t - 1 = omega (arith, one_node t) in
    map-append (moved_by n) (nodes_of at t) (root_of at (unary op t) ∷ []) ∙ rw (nodes_of-moved n at t, root) refl
nodes_of-moved n at (binary op l r) =
    let first : at + size_of l - 1 + n ≡ at + n + size_of l - 1 = omega (arith, one_node l) in
    let second : at + size_of l + size_of r - 1 + n ≡ at + n + size_of l + size_of r - 1 = omega (arith, one_node l) in
    let place : at + size_of l + n ≡ at + n + size_of l = omega arith in
    map-append (moved_by n) (nodes_of at l ++ nodes_of (at + size_of l) r) (root_of at (binary op l r) ∷ [])
    ∙ rw (map-append (moved_by n) (nodes_of at l) (nodes_of (at + size_of l) r), nodes_of-moved n at l, nodes_of-moved n (at + size_of l) r, first, second, place) refl
nodes_of-moved n at (choice c y m) =
    let first : at + size_of c - 1 + n ≡ at + n + size_of c - 1 = omega (arith, one_node c) in
    let second : at + size_of c + size_of y - 1 + n ≡ at + n + size_of c + size_of y - 1 = omega (arith, one_node c) in
    let third : at + size_of c + size_of y + size_of m - 1 + n ≡ at + n + size_of c + size_of y + size_of m - 1 = omega (arith, one_node c) in
    let place : at + size_of c + n ≡ at + n + size_of c = omega arith in
    let last : at + size_of c + size_of y + n ≡ at + n + size_of c + size_of y = omega arith in
    map-append (moved_by n) (nodes_of at c ++ nodes_of (at + size_of c) y ++ nodes_of (at + size_of c + size_of y) m) (root_of at (choice c y m) ∷ [])
    ∙ rw (
      map-append (moved_by n) (nodes_of at c ++ nodes_of (at + size_of c) y) (nodes_of (at + size_of c + size_of y) m),
      map-append (moved_by n) (nodes_of at c) (nodes_of (at + size_of c) y),
      nodes_of-moved n at c,
      nodes_of-moved n (at + size_of c) y,
      nodes_of-moved n (at + size_of c + size_of y) m,
      first,
      second,
      third,
      place,
      last,
    ) refl

-- what holds of each node of both lists holds of each node of one after the other
abbrev EachNode : {V : Type 0} → (ℕ → Node V → Type 0) → ℕ → List (Node V) → Type 0
EachNode {V} P at nodes = (k : ℕ) (node : Node V) → slice_get nodes k ≡ Some node → P (at + k) node

each-append : {V : Type 0} (P : ℕ → Node V → Type 0) (at : ℕ) (xs ys : List (Node V)) → EachNode P at xs → EachNode P (at + length xs) ys → EachNode P at (xs ++ ys)
each-append P at [] ys front after k node here = subst (λ (j : ℕ). P j node) (omega arith) (after k node here)
each-append P at (x ∷ xs) ys front after zero node here = front zero node here
each-append P at (x ∷ xs) ys front after (suc k) node here =
    subst (λ (j : ℕ). P j node) (omega arith) (each-append P (at + 1) xs ys (λ j n there. subst (λ (i : ℕ). P i n) (omega arith) (front (suc j) n there)) (λ j n there. subst (λ (i : ℕ). P i n) (omega arith) (after j n there)) k node here)

each-one : {V : Type 0} (P : ℕ → Node V → Type 0) (at : ℕ) (x : Node V) → P at x → EachNode P at (x ∷ [])
each-one P at x is zero node here = subst (λ n. P (at + 0) n) (cc (here)) (subst (λ (j : ℕ). P j x) (omega arith) is)
each-one P at x is (suc k) node here = absurd (cc (here))

-- each operand of a tree's node stands before it
pub operands_before : {V : Type 0} (at : ℕ) (t : Tree V) → EachNode OperandsBelow at (nodes_of at t)
operands_before at (number z) = each-one OperandsBelow at (Num z) tt
operands_before at (variable v) = each-one OperandsBelow at (Var v) tt
operands_before at (unary op t) =
    each-append OperandsBelow at (nodes_of at t) (root_of at (unary op t) ∷ []) (operands_before at t)
    (each-one OperandsBelow (at + length (nodes_of at t)) (root_of at (unary op t)) (omega (arith, length-nodes_of at t, one_node t)))
operands_before at (binary op l r) =
    let ls = nodes_of at l in
    let rs = nodes_of (at + size_of l) r in
    let size : length (ls ++ rs) ≡ size_of l + size_of r = omega (arith, length-append ls rs, length-nodes_of at l, length-nodes_of (at + size_of l) r) in
    let place : at + size_of l ≡ at + length ls = omega (arith, length-nodes_of at l) in
    let both = each-append OperandsBelow at ls rs (operands_before at l) (subst (λ (j : ℕ). EachNode OperandsBelow j rs) place (operands_before (at + size_of l) r)) in
    each-append OperandsBelow at (ls ++ rs) (root_of at (binary op l r) ∷ []) both
    (each-one OperandsBelow (at + length (ls ++ rs)) (root_of at (binary op l r)) (omega (arith, size, one_node l, one_node r), omega (arith, size, one_node l, one_node r)))
operands_before at (choice c y n) =
    let cs = nodes_of at c in
    let ys = nodes_of (at + size_of c) y in
    let ns = nodes_of (at + size_of c + size_of y) n in
    let size_both : length (cs ++ ys) ≡ size_of c + size_of y = omega (arith, length-append cs ys, length-nodes_of at c, length-nodes_of (at + size_of c) y) in
    let size : length ((cs ++ ys) ++ ns) ≡ size_of c + size_of y + size_of n = omega (arith, length-append (cs ++ ys) ns, size_both, length-nodes_of (at + size_of c + size_of y) n) in
    let second : at + size_of c ≡ at + length cs = omega (arith, length-nodes_of at c) in
    let third : at + size_of c + size_of y ≡ at + length (cs ++ ys) = omega (arith, size_both) in
    let both = each-append OperandsBelow at cs ys (operands_before at c) (subst (λ (j : ℕ). EachNode OperandsBelow j ys) second (operands_before (at + size_of c) y)) in
    let all = each-append OperandsBelow at (cs ++ ys) ns both (subst (λ (j : ℕ). EachNode OperandsBelow j ns) third (operands_before (at + size_of c + size_of y) n)) in
    each-append OperandsBelow at ((cs ++ ys) ++ ns) (root_of at (choice c y n) ∷ []) all
    (each-one OperandsBelow (at + length ((cs ++ ys) ++ ns)) (root_of at (choice c y n)) (omega (arith, size, one_node c, one_node y, one_node n), omega (arith, size, one_node c, one_node y, one_node n), omega (arith, size, one_node c, one_node y, one_node n)))

-- operands below a bound are below a greater one
operands_weaker : {V : Type 0} (m n : ℕ) (node : Node V) → m ≤ n → OperandsBelow m node → OperandsBelow n node
operands_weaker m n (Num z) less below = tt
operands_weaker m n (Var v) less below = tt
operands_weaker m n (Un op a) less below = omega arith
operands_weaker m n (Bin op a b) less below = (omega arith, omega arith)
operands_weaker m n (Pick c a b) less below = (omega arith, omega arith, omega arith)

-- in a list of nodes that has a tree, each operand stands before its node
operands_of : {V : Type 0} (nodes : List (Node V)) (t : Tree V) → nodes ≡ nodes_of 0 t → (k : ℕ) (node : Node V) → slice_get nodes k ≡ Some node → OperandsBelow k node
operands_of nodes t is k node here =
    subst (λ (j : ℕ). OperandsBelow j node) (omega arith) (operands_before 0 t k node (ap (λ (l : List (Node _)). slice_get l k) (sym is) ∙ here))

-- and so below any bound on the length
pub operands_within : {V : Type 0} (nodes : List (Node V)) (t : Tree V) (n : ℕ) → nodes ≡ nodes_of 0 t → length nodes ≤ n → (k : ℕ) (node : Node V) → k < length nodes → slice_get nodes k ≡ Some node → OperandsBelow n node
operands_within nodes t n is few k node within here = operands_weaker k n node (omega arith) (operands_of nodes t is k node here)

-- an expression has as many nodes as its tree
pub length-tree_of : {V : Type 0} (e : Expr V) → length e.nodes ≡ size_of (tree_of e)
length-tree_of e = ap length e.tree.1 ∙ length-nodes_of 0 (tree_of e)

-- how many nodes stand there once an expression's are added
pub length-joined : {V : Type 0} (before both : List (Node V)) (e : Expr V) → both ≡ before ++ nodes_of (length before) (tree_of e) → length both ≡ length before + length e.nodes
length-joined before both e is =
    omega (arith, ap length is, length-append before (nodes_of (length before) (tree_of e)), length-nodes_of (length before) (tree_of e), length-tree_of e)

-- a root put after the nodes of its operands makes the nodes of the tree
module _ {V : Type 0} where
  pub joined_unary : (op : UnOp) (t : Tree V) (nodes made : List (Node V)) (root : ℕ) → nodes ≡ nodes_of 0 t → root ≡ length nodes - 1 → made ≡ nodes ++ Un op root ∷ []
      → made ≡ nodes_of 0 (unary op t)
  joined_unary op t nodes made root is at all =
      let place : root ≡ 0 + size_of t - 1 = omega (arith, at, ap length is, length-nodes_of 0 t) in
      all ∙ ap (λ (l : List (Node V)). l ++ Un op root ∷ []) is ∙ ap (λ (k : ℕ). nodes_of 0 t ++ Un op k ∷ []) place

  pub joined_binary : (op : BinOp) (l r : Tree V) (lefts both made : List (Node V)) (first second : ℕ) → lefts ≡ nodes_of 0 l → both ≡ lefts ++ nodes_of (length lefts) r
      → first ≡ length lefts - 1 → second ≡ length both - 1 → made ≡ both ++ Bin op first second ∷ [] → made ≡ nodes_of 0 (binary op l r)
  joined_binary op l r lefts both made first second is joined at then all =
      let size : length lefts ≡ 0 + size_of l = omega (arith, ap length is, length-nodes_of 0 l) in
      let whole : both ≡ nodes_of 0 l ++ nodes_of (0 + size_of l) r = joined ∙ ap (λ (x : List (Node V)). x ++ nodes_of (length lefts) r) is ∙ ap (λ (k : ℕ). nodes_of 0 l ++ nodes_of k r) size in
      let one : first ≡ 0 + size_of l - 1 = omega (arith, at, size) in
      let two : second ≡ 0 + size_of l + size_of r - 1 = omega (arith, then, ap length whole, length-append (nodes_of 0 l) (nodes_of (0 + size_of l) r), length-nodes_of 0 l, length-nodes_of (0 + size_of l) r) in
      all ∙ ap (λ (x : List (Node V)). x ++ Bin op first second ∷ []) whole ∙ ap (λ (k : ℕ). nodes_of 0 l ++ nodes_of (0 + size_of l) r ++ Bin op k second ∷ []) one
      ∙ ap (λ (k : ℕ). nodes_of 0 l ++ nodes_of (0 + size_of l) r ++ Bin op (0 + size_of l - 1) k ∷ []) two

  pub joined_choice : (c y n : Tree V) (conditions both all made : List (Node V)) (first second third : ℕ) → conditions ≡ nodes_of 0 c → both ≡ conditions ++ nodes_of (length conditions) y
      → all ≡ both ++ nodes_of (length both) n → first ≡ length conditions - 1 → second ≡ length both - 1 → third ≡ length all - 1 → made ≡ all ++ Pick first second third ∷ []
      → made ≡ nodes_of 0 (choice c y n)
  joined_choice c y n conditions both all made first second third is joined last at then end whole =
      let cs = nodes_of 0 c in
      let ys = nodes_of (0 + size_of c) y in
      let ns = nodes_of (0 + size_of c + size_of y) n in
      let size : length conditions ≡ 0 + size_of c = omega (arith, ap length is, length-nodes_of 0 c) in
      let two : both ≡ cs ++ ys = joined ∙ ap (λ (x : List (Node V)). x ++ nodes_of (length conditions) y) is ∙ ap (λ (k : ℕ). cs ++ nodes_of k y) size in
      let next_size : length both ≡ 0 + size_of c + size_of y = omega (arith, ap length two, length-append cs ys, length-nodes_of 0 c, length-nodes_of (0 + size_of c) y) in
      let three : all ≡ cs ++ ys ++ ns = last ∙ ap (λ (x : List (Node V)). x ++ nodes_of (length both) n) two ∙ ap (λ (k : ℕ). cs ++ ys ++ nodes_of k n) next_size in
      let a : first ≡ 0 + size_of c - 1 = omega (arith, at, size) in
      let b : second ≡ 0 + size_of c + size_of y - 1 = omega (arith, then, next_size) in
      let d : third ≡ 0 + size_of c + size_of y + size_of n - 1 = omega (arith, end, ap length three, length-append (cs ++ ys) ns, length-append cs ys, length-nodes_of 0 c, length-nodes_of (0 + size_of c) y, length-nodes_of (0 + size_of c + size_of y) n) in
      whole ∙ ap (λ (x : List (Node V)). x ++ Pick first second third ∷ []) three ∙ ap (λ (k : ℕ). cs ++ ys ++ ns ++ Pick k second third ∷ []) a
      ∙ ap (λ (k : ℕ). cs ++ ys ++ ns ++ Pick (0 + size_of c - 1) k third ∷ []) b ∙ ap (λ (k : ℕ). cs ++ ys ++ ns ++ Pick (0 + size_of c - 1) (0 + size_of c + size_of y - 1) k ∷ []) d
