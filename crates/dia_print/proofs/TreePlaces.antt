-- Where the operands of a tree stand.
use Rattle.std.proofs.Common.{◌≡◌, ℕ, ◌+◌, ◌-◌, ◌<◌, ◌≤◌, List, [], ◌∷◌, ◌++◌, length, get_or, slice_get, Some, refl, sym, ◌∙◌, ap, subst, arith, length-append}
use Rattle.std.proofs.lemmas.Option.{slice_get_within}
use Rattle.dbp_plan.specs.declared.node.BinOp.{BinOp}
use Rattle.dbp_plan.specs.declared.node.UnOp.{UnOp}
use Rattle.dbp_plan.specs.declared.node.Node.{Node}
use Rattle.dbp_plan.specs.declared.node.Node.TheVariants.{Num, Var, Un, Bin, Pick}
use Rattle.dbp_plan.specs.Tree.{Tree, number, variable, unary, binary, choice, size_of, root_of, nodes_of}
use Rattle.dbp_plan.specs.TreeLaws.{length-nodes_of, one_node}
use Rattle.dbp_plan.specs.ListItems.{read_place, front_place, after_place}
use Rattle.dia_print.specs.ExpressionTokens.{is_compound}
use Rattle.dia_print.specs.Stands.{Stands, is_compound_node}

-- ---- what stands where a node does

module _ {V : Type 0} (nodes : List (Node V)) (place : ℕ) where
  pub at-number : (x : Tree V) (z : _) → slice_get nodes place ≡ Some (Num z) → Stands nodes place x → x ≡ number z
  at-number (number y) z e s = cc
  at-number (variable v) z e s = absurd (cc)
  at-number (unary o t) z e s = let f = s.1 in absurd (cc)
  at-number (binary o l r) z e s = let f = s.2 in absurd (cc)
  at-number (choice c y n) z e s = let f = s.3 in absurd (cc)

  pub at-variable : (x : Tree V) (v : V) → slice_get nodes place ≡ Some (Var v) → Stands nodes place x → x ≡ variable v
  at-variable (number y) v e s = absurd (cc)
  at-variable (variable w) v e s = cc
  at-variable (unary o t) v e s = let f = s.1 in absurd (cc)
  at-variable (binary o l r) v e s = let f = s.2 in absurd (cc)
  at-variable (choice c y n) v e s = let f = s.3 in absurd (cc)

  pub at-unary : (x : Tree V) (op : UnOp) (a : ℕ) → slice_get nodes place ≡ Some (Un op a) → Stands nodes place x
      → (t : Tree V) × (x ≡ unary op t) × (a < place) × Stands nodes a t
  at-unary (number y) op a e s = absurd (cc)
  at-unary (variable w) op a e s = absurd (cc)
  at-unary (unary o t) op a e (b, f, less, s) =
      let ops : o ≡ op = cc in
      let places : b ≡ a = cc in
      (t, ap (λ k. unary k t) ops, subst (λ k. k < place) places less, subst (λ k. Stands nodes k t) places s)
  at-unary (binary o l r) op a e s = let f = s.2 in absurd (cc)
  at-unary (choice c y n) op a e s = let f = s.3 in absurd (cc)

  pub at-binary : (x : Tree V) (op : BinOp) (a b : ℕ) → slice_get nodes place ≡ Some (Bin op a b) → Stands nodes place x
      → (l r : Tree V) × (x ≡ binary op l r) × (a < place) × (b < place) × Stands nodes a l × Stands nodes b r
  at-binary (number y) op a b e s = absurd (cc)
  at-binary (variable w) op a b e s = absurd (cc)
  at-binary (unary o t) op a b e s = let f = s.1 in absurd (cc)
  at-binary (binary o l r) op a b e (c, d, f, less, lower, s, t) =
      let ops : o ≡ op = cc in
      let firsts : c ≡ a = cc in
      let seconds : d ≡ b = cc in (
        l,
        r,
        ap (λ k. binary k l r) ops,
        subst (λ k. k < place) firsts less,
        subst (λ k. k < place) seconds lower,
        subst (λ k. Stands nodes k l) firsts s,
        subst (λ k. Stands nodes k r) seconds t,
      )
  at-binary (choice c y n) op a b e s = let f = s.3 in absurd (cc)

  pub at-choice : (x : Tree V) (a b d : ℕ) → slice_get nodes place ≡ Some (Pick a b d) → Stands nodes place x
      → (c y n : Tree V) × (x ≡ choice c y n) × (a < place) × (b < place) × (d < place) × Stands nodes a c × Stands nodes b y × Stands nodes d n
  at-choice (number y) a b d e s = absurd (cc)
  at-choice (variable w) a b d e s = absurd (cc)
  at-choice (unary o t) a b d e s = let f = s.1 in absurd (cc)
  at-choice (binary o l r) a b d e s = let f = s.2 in absurd (cc)
  at-choice (choice c y n) a b d e (i, j, k, f, below, less, lower, s, t, u) =
      let firsts : i ≡ a = cc in
      let seconds : j ≡ b = cc in
      let thirds : k ≡ d = cc in (
        c,
        y,
        n,
        refl,
        subst (λ m. m < place) firsts below,
        subst (λ m. m < place) seconds less,
        subst (λ m. m < place) thirds lower,
        subst (λ m. Stands nodes m c) firsts s,
        subst (λ m. Stands nodes m y) seconds t,
        subst (λ m. Stands nodes m n) thirds u,
      )

pub within : {V : Type 0} (nodes : List (Node V)) (place : ℕ) (x : Tree V) → Stands nodes place x → place < length nodes
within nodes place (number z) s = slice_get_within nodes place (Num z) s
within nodes place (variable v) s = slice_get_within nodes place (Var v) s
within nodes place (unary op t) s = slice_get_within nodes place _ s.1
within nodes place (binary op l r) s = slice_get_within nodes place _ s.2
within nodes place (choice c y n) s = slice_get_within nodes place _ s.3

-- what was read at the place
pub found : {V : Type 0} (nodes : List (Node V)) (place : ℕ) (x : Tree V) (n m : Node V) → Stands nodes place x → n ≡ get_or nodes place n → n ≡ m → slice_get nodes place ≡ Some m
found nodes place x n m s e f = read_place nodes place n (within nodes place x s) e ∙ ap (λ k. Some k) f

-- whether the root is compound
pub compound-at : (nodes : List (Node (List ℕ))) (place : ℕ) (x : Tree (List ℕ)) (n : Node (List ℕ)) → Stands nodes place x → slice_get nodes place ≡ Some n → is_compound_node n ≡ is_compound x
compound-at nodes place (number z) n s e = let f : n ≡ Num z = cc in ap is_compound_node f
compound-at nodes place (variable v) n s e = let f : n ≡ Var v = cc in ap is_compound_node f
compound-at nodes place (unary op t) n (a, s, less, below) e = let f : n ≡ Un op a = cc in ap is_compound_node f
compound-at nodes place (binary op l r) n (a, b, s, f, g, h, i) e = let m : n ≡ Bin op a b = cc in ap is_compound_node m
compound-at nodes place (choice c y o) n (a, b, d, s, f, g, h, i, j, k) e = let m : n ≡ Pick a b d = cc in ap is_compound_node m

-- ---- the tree of a list

-- the items stand in the list from the place on
abbrev Holds : {X : Type 0} → List X → ℕ → List X → Type 0
Holds {X} all at xs = (k : ℕ) (x : X) → slice_get xs k ≡ Some x → slice_get all (at + k) ≡ Some x

holds-front : {X : Type 0} (all : List X) (at : ℕ) (xs ys : List X) → Holds all at (xs ++ ys) → Holds all at xs
holds-front all at xs ys h k x e = h k x (front_place xs ys k (slice_get_within xs k x e) ∙ e)

holds-after : {X : Type 0} (all : List X) (at n : ℕ) (xs ys : List X) → n ≡ length xs → Holds all at (xs ++ ys) → Holds all (at + n) ys
holds-after all at n xs ys size h k x e =
    let place : at + n + k ≡ at + (length xs + k) = omega (arith, size) in
    ap (λ j. slice_get all j) place ∙ h (length xs + k) x (after_place xs ys k ∙ e)

holds-one : {X : Type 0} (all : List X) (at place : ℕ) (x : X) → place ≡ at → Holds all at (x ∷ []) → slice_get all place ≡ Some x
holds-one all at place x e h = let same : place ≡ at + 0 = omega (arith, e) in ap (λ j. slice_get all j) same ∙ h 0 x refl

-- the nodes of a tree, after so many others, have its root as their last
pub stands : {V : Type 0} (nodes : List (Node V)) (at : ℕ) (t : Tree V) → Holds nodes at (nodes_of at t) → Stands nodes (at + size_of t - 1) t
stands nodes at (number z) h = holds-one nodes at (at + 1 - 1) (Num z) (omega arith) h
stands nodes at (variable v) h = holds-one nodes at (at + 1 - 1) (Var v) (omega arith) h
stands nodes at (unary op t) h =
    let ts = nodes_of at t in
    let root = root_of at (unary op t) in
    let size : size_of t ≡ length ts = sym (length-nodes_of at t) in
    let root_holds = holds-after nodes at (size_of t) ts (root ∷ []) size h in
    (at + size_of t - 1, holds-one nodes (at + size_of t) (at + (size_of t + 1) - 1) root (omega arith) root_holds, omega (arith, one_node t), stands nodes at t (holds-front nodes at ts (root ∷ []) h))
stands nodes at (binary op l r) h =
    let ls = nodes_of at l in
    let rs = nodes_of (at + size_of l) r in
    let root = root_of at (binary op l r) in
    let both = holds-front nodes at (ls ++ rs) (root ∷ []) h in
    let first = sym (length-nodes_of at l) in
    let second = sym (length-nodes_of (at + size_of l) r) in
    let size : size_of l + size_of r ≡ length (ls ++ rs) = omega (arith, first, second, length-append ls rs) in
    let root_holds = holds-after nodes at (size_of l + size_of r) (ls ++ rs) (root ∷ []) size h in (
      at + size_of l - 1,
      at + size_of l + size_of r - 1,
      holds-one nodes (at + (size_of l + size_of r)) (at + (size_of l + size_of r + 1) - 1) root (omega arith) root_holds,
      omega (arith, one_node l, one_node r),
      omega (arith, one_node l, one_node r),
      stands nodes at l (holds-front nodes at ls rs both),
      stands nodes (at + size_of l) r (holds-after nodes at (size_of l) ls rs first both),
    )
stands nodes at (choice c y n) h =
    let cs = nodes_of at c in
    let ys = nodes_of (at + size_of c) y in
    let ns = nodes_of (at + size_of c + size_of y) n in
    let root = root_of at (choice c y n) in
    let all = holds-front nodes at (cs ++ ys ++ ns) (root ∷ []) h in
    let both = holds-front nodes at (cs ++ ys) ns all in
    let first = sym (length-nodes_of at c) in
    let second = sym (length-nodes_of (at + size_of c) y) in
    let third = sym (length-nodes_of (at + size_of c + size_of y) n) in
    let two : size_of c + size_of y ≡ length (cs ++ ys) = omega (arith, first, second, length-append cs ys) in
    let size : size_of c + size_of y + size_of n ≡ length (cs ++ ys ++ ns) = omega (arith, two, third, length-append (cs ++ ys) ns) in
    let root_holds = holds-after nodes at (size_of c + size_of y + size_of n) (cs ++ ys ++ ns) (root ∷ []) size h in
    let last_holds = holds-after nodes at (size_of c + size_of y) (cs ++ ys) ns two all in
    let moved : at + (size_of c + size_of y) ≡ at + size_of c + size_of y = omega arith in (
      at + size_of c - 1,
      at + size_of c + size_of y - 1,
      at + size_of c + size_of y + size_of n - 1,
      holds-one nodes (at + (size_of c + size_of y + size_of n)) (at + (size_of c + size_of y + size_of n + 1) - 1) root (omega arith) root_holds,
      omega (arith, one_node c, one_node y, one_node n),
      omega (arith, one_node c, one_node y, one_node n),
      omega (arith, one_node c, one_node y, one_node n),
      stands nodes at c (holds-front nodes at cs ys both),
      stands nodes (at + size_of c) y (holds-after nodes at (size_of c) cs ys first both),
      stands nodes (at + size_of c + size_of y) n (subst (λ k. Holds nodes k ns) moved last_holds),
    )

-- the root of an expression is its last node
pub stands-whole : {V : Type 0} (nodes : List (Node V)) (t : Tree V) (n : ℕ) → nodes ≡ nodes_of 0 t → n ≡ length nodes → Stands nodes (n - 1) t
stands-whole nodes t n e size =
    let place : 0 + size_of t - 1 ≡ n - 1 = omega (arith, size, ap length e, length-nodes_of 0 t) in
    subst (λ k. Stands nodes k t) place (stands nodes 0 t (λ k x f. let same : 0 + k ≡ k = omega arith in ap (λ j. slice_get nodes j) same ∙ ap (λ l. slice_get l k) e ∙ f))

pub some-node : {V : Type 0} (nodes : List (Node V)) (t : Tree V) → nodes ≡ nodes_of 0 t → 1 ≤ length nodes
some-node nodes t e = omega (arith, ap length e, length-nodes_of 0 t, one_node t)
