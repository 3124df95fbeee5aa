-- A list of nodes is that of one tree at most.
use Rattle.std.specs.Prelude.{◌≡◌, ℕ, ◌+◌, ◌-◌, ◌≤◌, List, [], ◌∷◌, ◌++◌, length}
use Rattle.std.specs.Coded.{Coded, Coded-set}
use Rattle.std.proofs.Common.{sym, ◌∙◌, ap, arith, length-append, take, drop}
use Rattle.std.proofs.Math.Seq.{take-append_seam, drop-append_seam}
use Rattle.std.proofs.lemmas.List.{same_from_push}
use Rattle.dbp_plan.specs.declared.node.Node.{Node}
use Rattle.dbp_plan.specs.declared.node.Node.TheVariants.{Num, Var}
use Rattle.dbp_plan.specs.Tree.{Tree, number, variable, unary, binary, choice, size_of, root_of, nodes_of, HasTree}
use mathlib.Core.HLevel.{Σ_prop_path}

pub one_node : {V : Type 0} (t : Tree V) → 1 ≤ size_of t
one_node (number z) = omega arith
one_node (variable v) = omega arith
one_node (unary op t) = omega arith
one_node (binary op l r) = omega arith
one_node (choice c y n) = omega arith

pub length-nodes_of : {V : Type 0} (at : ℕ) (t : Tree V) → length (nodes_of at t) ≡ size_of t
length-nodes_of at (number z) = omega arith
length-nodes_of at (variable v) = omega arith
length-nodes_of at (unary op t) =
    omega (arith, length-nodes_of at t, length-append (nodes_of at t) (root_of at (unary op t) ∷ []))
length-nodes_of at (binary op l r) =
    let ls = nodes_of at l in
    let rs = nodes_of (at + size_of l) r in
    omega (arith, length-nodes_of at l, length-nodes_of (at + size_of l) r, length-append (ls ++ rs) (root_of at (binary op l r) ∷ []), length-append ls rs)
length-nodes_of at (choice c y n) =
    let cs = nodes_of at c in
    let ys = nodes_of (at + size_of c) y in
    let ns = nodes_of (at + size_of c + size_of y) n in
    omega (
      arith,
      length-nodes_of at c,
      length-nodes_of (at + size_of c) y,
      length-nodes_of (at + size_of c + size_of y) n,
      length-append ((cs ++ ys) ++ ns) (root_of at (choice c y n) ∷ []),
      length-append (cs ++ ys) ns,
      length-append cs ys,
    )

module _ {X : Type 0} where
  same_front : (a b c d : List X) → length a ≡ length c → a ++ b ≡ c ++ d → a ≡ c
  same_front a b c d size same = sym (take-append_seam a b) ∙ ap (λ (l : List X). take (length a) l) same ∙ ap (λ (n : ℕ). take n (c ++ d)) size ∙ take-append_seam c d

  same_after : (a b c d : List X) → length a ≡ length c → a ++ b ≡ c ++ d → b ≡ d
  same_after a b c d size same = sym (drop-append_seam a b) ∙ ap (λ (l : List X). drop (length a) l) same ∙ ap (λ (n : ℕ). drop n (c ++ d)) size ∙ drop-append_seam c d

-- what stands before the root
abbrev before_root : {V : Type 0} → ℕ → Tree V → List (Node V)
before_root at (number z) = []
before_root at (variable v) = []
before_root at (unary op t) = nodes_of at t
before_root at (binary op l r) = nodes_of at l ++ nodes_of (at + size_of l) r
before_root at (choice c y n) = (nodes_of at c ++ nodes_of (at + size_of c) y) ++ nodes_of (at + size_of c + size_of y) n

split_root : {V : Type 0} (at : ℕ) (t : Tree V) → nodes_of at t ≡ before_root at t ++ root_of at t ∷ []
split_root at (number z) = λ i. Num z ∷ []
split_root at (variable v) = λ i. Var v ∷ []
split_root at (unary op t) = λ i. nodes_of at t ++ root_of at (unary op t) ∷ []
split_root at (binary op l r) = λ i. nodes_of at l ++ nodes_of (at + size_of l) r ++ root_of at (binary op l r) ∷ []
split_root at (choice c y n) = λ i. nodes_of at c ++ nodes_of (at + size_of c) y ++ nodes_of (at + size_of c + size_of y) n ++ root_of at (choice c y n) ∷ []

same_roots : {V : Type 0} (at : ℕ) (t u : Tree V) → nodes_of at t ≡ nodes_of at u → (before_root at t ≡ before_root at u) × (root_of at t ≡ root_of at u)
same_roots at t u same = same_from_push (before_root at t) (before_root at u) (root_of at t) (root_of at u) (sym (split_root at t) ∙ same ∙ split_root at u)

-- a list of nodes has one tree
pub one_tree : {V : Type 0} (at : ℕ) (t u : Tree V) → nodes_of at t ≡ nodes_of at u → t ≡ u
one_tree at (number y) (number z) same = let roots = (same_roots at (number y) (number z) same).1 in cc
one_tree at (variable v) (variable w) same = let roots = (same_roots at (variable v) (variable w) same).1 in cc
one_tree at (unary op t) (unary o u) same =
    let (fronts, roots) = same_roots at (unary op t) (unary o u) same in
    let ops : op ≡ o = cc (roots) in
    let below : t ≡ u = one_tree at t u fronts in
    cc (ops, below)
one_tree at (binary op l r) (binary o m s) same =
    let (fronts, roots) = same_roots at (binary op l r) (binary o m s) same in
    let ops : op ≡ o = cc (roots) in
    let firsts : at + size_of l - 1 ≡ at + size_of m - 1 = cc (roots) in
    let sizes : size_of l ≡ size_of m = omega (arith, firsts, one_node l, one_node m) in
    let lengths : length (nodes_of at l) ≡ length (nodes_of at m) = omega (arith, length-nodes_of at l, length-nodes_of at m, sizes) in
    let lefts : l ≡ m = one_tree at l m (same_front (nodes_of at l) (nodes_of (at + size_of l) r) (nodes_of at m) (nodes_of (at + size_of m) s) lengths fronts) in
    let after = same_after (nodes_of at l) (nodes_of (at + size_of l) r) (nodes_of at m) (nodes_of (at + size_of m) s) lengths fronts in
    let moved : nodes_of (at + size_of l) r ≡ nodes_of (at + size_of l) s = after ∙ ap (λ (n : ℕ). nodes_of (at + n) s) (sym sizes) in
    let rights : r ≡ s = one_tree (at + size_of l) r s moved in
    cc (ops, lefts, rights)
one_tree at (choice c y n) (choice d z m) same =
    let (fronts, roots) = same_roots at (choice c y n) (choice d z m) same in
    let firsts : at + size_of c - 1 ≡ at + size_of d - 1 = cc (roots) in
    let sizes : size_of c ≡ size_of d = omega (arith, firsts, one_node c, one_node d) in
    let seconds : at + size_of c + size_of y - 1 ≡ at + size_of d + size_of z - 1 = cc (roots) in
    let next_sizes : size_of y ≡ size_of z = omega (arith, seconds, sizes, one_node y, one_node z) in
    let cs = nodes_of at c in
    let ys = nodes_of (at + size_of c) y in
    let ns = nodes_of (at + size_of c + size_of y) n in
    let ds = nodes_of at d in
    let zs = nodes_of (at + size_of d) z in
    let ms = nodes_of (at + size_of d + size_of z) m in
    let length_c : length cs ≡ length ds = omega (arith, length-nodes_of at c, length-nodes_of at d, sizes) in
    let length_y : length ys ≡ length zs = omega (arith, length-nodes_of (at + size_of c) y, length-nodes_of (at + size_of d) z, next_sizes) in
    let length_both : length (cs ++ ys) ≡ length (ds ++ zs) = omega (arith, length-append cs ys, length-append ds zs, length_c, length_y) in
    let front = same_front (cs ++ ys) ns (ds ++ zs) ms length_both fronts in
    let last = same_after (cs ++ ys) ns (ds ++ zs) ms length_both fronts in
    let conditions : c ≡ d = one_tree at c d (same_front cs ys ds zs length_c front) in
    let ys_moved : ys ≡ nodes_of (at + size_of c) z = same_after cs ys ds zs length_c front ∙ ap (λ (k : ℕ). nodes_of (at + k) z) (sym sizes) in
    let yeses : y ≡ z = one_tree (at + size_of c) y z ys_moved in
    let places : at + size_of d + size_of z ≡ at + size_of c + size_of y = omega (arith, sizes, next_sizes) in
    let nos : n ≡ m = one_tree (at + size_of c + size_of y) n m (last ∙ ap (λ (k : ℕ). nodes_of k m) places) in
    cc (conditions, yeses, nos)
-- the roots of all other pairs differ
one_tree at t u same = let roots = (same_roots at t u same).1 in cc

-- so it has one tree at most, and this in one way
pub HasTree-prop : {V : Type 0} → Coded (List (Node V)) → (nodes : List (Node V)) → IsProp (HasTree nodes)
HasTree-prop code nodes a b = Σ_prop_path (λ t. Coded-set code nodes (nodes_of 0 t)) (one_tree 0 a.0 b.0 (sym a.1 ∙ b.1))
