-- Evaluation of nodes in post-order on a stack.
use Rattle.std.proofs.Common.{◌≡◌, ℕ, suc, ℤ, pos, ◌+◌, ◌-◌, ◌<◌, ◌≤◌, List, [], ◌∷◌, ◌++◌, length, take, drop, get_or, set, slice_index_or, slice_get, refl, sym, ◌∙◌, ap, subst, arith, append_assoc, length-take}
use Rattle.std.proofs.lemmas.List.{same_from_push, take_more, take_more_set, length_push, append-nil, take_all}
use Rattle.dbp_plan.specs.declared.node.BinOp.{BinOp}
use Rattle.dbp_plan.specs.declared.node.UnOp.{UnOp}
use Rattle.dbp_plan.specs.declared.node.Node.{Node}
use Rattle.dbp_plan.specs.declared.node.Node.TheVariants.{Num, Var, Un, Bin, Pick}
use Rattle.dbp_plan.specs.Tree.{Tree, number, variable, unary, binary, choice, size_of, root_of, nodes_of}
use Rattle.dbp_plan.specs.declared.expr.Expr.{Expr}
use Rattle.dbp_plan.specs.LetOrder.{VariablesBelow}
use Rattle.expr_eval.specs.Values.{value_of, tree_value, value_of_unary, value_of_binary, value_of_choice}

-- With these values that no operator has taken yet, the earliest first and the latest apart, the nodes lead to that value at their end. A leaf adds its value, and an operator puts its own in place of its operands.
pub Runs : List ℤ → List ℤ → ℤ → List (Node ℕ) → ℤ → Type 0
Runs env below last [] end = end ≡ last
Runs env below last (Num z ∷ rest) end = Runs env (below ++ last ∷ []) z rest end
Runs env below last (Var v ∷ rest) end = Runs env (below ++ last ∷ []) (slice_index_or env v (pos 0)) rest end
Runs env below last (Un op x ∷ rest) end = Runs env below (value_of_unary op last) rest end
Runs env below last (Bin op x y ∷ rest) end = (under : List ℤ) × (left : ℤ) × (below ≡ under ++ left ∷ []) × Runs env under (value_of_binary op left last) rest end
Runs env below last (Pick x y z ∷ rest) end =
    (under : List ℤ) × (condition yes : ℤ) × (below ≡ under ++ condition ∷ [] ++ yes ∷ []) × Runs env under (value_of_choice condition yes last) rest end

-- the nodes of a tree add its value
pub runs_tree : (env : List ℤ) (t : Tree ℕ) (at : ℕ) (below : List ℤ) (last : ℤ) (rest : List (Node ℕ)) (end : ℤ)
    → Runs env (below ++ last ∷ []) (tree_value env t) rest end → Runs env below last (nodes_of at t ++ rest) end
unfolding Runs
runs_tree env (number z) at below last rest end after = after
runs_tree env (variable v) at below last rest end after = after
runs_tree env (unary op t) at below last rest end after =
    let root = root_of at (unary op t) in
    rw (append_assoc (nodes_of at t) (root ∷ []) rest) (runs_tree env t at below last (root ∷ rest) end after)
runs_tree env (binary op l r) at below last rest end after =
    let root = root_of at (binary op l r) in
    let ls = nodes_of at l in
    let rs = nodes_of (at + size_of l) r in
    let under = below ++ last ∷ [] in
    let rooted : Runs env (under ++ tree_value env l ∷ []) (tree_value env r) (root ∷ rest) end = (under, tree_value env l, refl, after) in
    let right = runs_tree env r (at + size_of l) under (tree_value env l) (root ∷ rest) end rooted in
    rw (append_assoc (ls ++ rs) (root ∷ []) rest, append_assoc ls rs (root ∷ rest)) (runs_tree env l at below last (rs ++ root ∷ rest) end right)
runs_tree env (choice c y n) at below last rest end after =
    let root = root_of at (choice c y n) in
    let cs = nodes_of at c in
    let ys = nodes_of (at + size_of c) y in
    let ns = nodes_of (at + size_of c + size_of y) n in
    let under = below ++ last ∷ [] in
    let condition = tree_value env c in
    let yes = tree_value env y in
    let rooted : Runs env ((under ++ condition ∷ []) ++ yes ∷ []) (tree_value env n) (root ∷ rest) end = (under, condition, yes, refl, after) in
    let third = runs_tree env n (at + size_of c + size_of y) (under ++ condition ∷ []) yes (root ∷ rest) end rooted in
    let second = runs_tree env y (at + size_of c) under condition (ns ++ root ∷ rest) end third in
    rw (append_assoc (cs ++ ys ++ ns) (root ∷ []) rest, append_assoc (cs ++ ys) ns (root ∷ rest), append_assoc cs ys (ns ++ root ∷ rest))
    (runs_tree env c at below last (ys ++ (ns ++ root ∷ rest)) end second)

-- an expression's nodes lead to its value
pub runs_all : (env : List ℤ) (e : Expr ℕ) (last : ℤ) (nodes : List (Node ℕ)) → nodes ≡ e.nodes → Runs env [] last nodes (value_of e env)
unfolding Runs
runs_all env e last nodes is =
    let done : Runs env ([] ++ last ∷ []) (tree_value env e.tree.0) [] (value_of e env) = refl in
    let whole : nodes_of 0 e.tree.0 ++ [] ≡ nodes = append-nil (nodes_of 0 e.tree.0) ∙ sym (is ∙ e.tree.1) in
    subst (λ (l : List (Node ℕ)). Runs env [] last l (value_of e env)) whole (runs_tree env e.tree.0 0 [] last [] (value_of e env) done)

-- no node is left
pub runs_none : (env below : List ℤ) (last : ℤ) (nodes : List (Node ℕ)) (end : ℤ) → length nodes ≡ 0 → Runs env below last nodes end → last ≡ end
unfolding Runs
runs_none env below last [] end none runs = sym runs
runs_none env below last (x ∷ nodes) end none runs = absurd (omega arith)

-- the latest value goes onto the stack
onto_stack : (env stack : List ℤ) (height : ℕ) (last z : ℤ) (rest : List (Node ℕ)) (end : ℤ)
    → height < length stack → Runs env (take height stack ++ last ∷ []) z rest end → Runs env (take (height + 1) (set stack height last)) z rest end
onto_stack env stack height last z rest end room runs = subst (λ (l : List ℤ). Runs env l z rest end) (sym (take_more_set stack height last room)) runs

-- one node on, the nodes lead to the same value
pub runs_number : (env stack : List ℤ) (height : ℕ) (last z : ℤ) (nodes rest : List (Node ℕ)) (end : ℤ)
    → nodes ≡ Num z ∷ rest → height < length stack → Runs env (take height stack) last nodes end
    → Runs env (take (height + 1) (set stack height last)) z rest end
unfolding Runs
runs_number env stack height last z nodes rest end is room runs =
    onto_stack env stack height last z rest end room (subst (λ (l : List (Node ℕ)). Runs env (take height stack) last l end) is runs)

pub runs_variable : (env stack : List ℤ) (height : ℕ) (last : ℤ) (v : ℕ) (nodes rest : List (Node ℕ)) (end : ℤ)
    → nodes ≡ Var v ∷ rest → height < length stack → Runs env (take height stack) last nodes end
    → Runs env (take (height + 1) (set stack height last)) (slice_index_or env v (pos 0)) rest end
unfolding Runs
runs_variable env stack height last v nodes rest end is room runs =
    onto_stack env stack height last (slice_index_or env v (pos 0)) rest end room (subst (λ (l : List (Node ℕ)). Runs env (take height stack) last l end) is runs)

pub runs_unary : (env below : List ℤ) (last : ℤ) (op : UnOp) (x : ℕ) (nodes rest : List (Node ℕ)) (end : ℤ)
    → nodes ≡ Un op x ∷ rest → Runs env below last nodes end → Runs env below (value_of_unary op last) rest end
unfolding Runs
runs_unary env below last op x nodes rest end is runs = subst (λ (l : List (Node ℕ)). Runs env below last l end) is runs

-- an operator between two operands finds the left one on the stack
pub some_left : (env stack : List ℤ) (height : ℕ) (last : ℤ) (op : BinOp) (x y : ℕ) (nodes rest : List (Node ℕ)) (end : ℤ)
    → nodes ≡ Bin op x y ∷ rest → Runs env (take height stack) last nodes end → 1 ≤ height
unfolding Runs
some_left env stack height last op x y nodes rest end is runs =
    let now : Runs env (take height stack) last (Bin op x y ∷ rest) end = subst (λ (l : List (Node ℕ)). Runs env (take height stack) last l end) is runs in
    omega (arith, ap length now.2, length_push now.0 now.1, length-take height stack)

pub runs_binary : (env stack : List ℤ) (height h : ℕ) (last : ℤ) (op : BinOp) (x y : ℕ) (nodes rest : List (Node ℕ)) (end : ℤ)
    → nodes ≡ Bin op x y ∷ rest → h + 1 ≡ height → height ≤ length stack → Runs env (take height stack) last nodes end
    → Runs env (take h stack) (value_of_binary op (get_or stack h (pos 0)) last) rest end
unfolding Runs
runs_binary env stack height h last op x y nodes rest end is size room runs =
    let now : Runs env (take height stack) last (Bin op x y ∷ rest) end = subst (λ (l : List (Node ℕ)). Runs env (take height stack) last l end) is runs in
    let within : h < length stack = omega arith in
    let top : now.0 ++ now.1 ∷ [] ≡ take h stack ++ get_or stack h (pos 0) ∷ [] = sym now.2 ∙ ap (λ (k : ℕ). take k stack) (sym size) ∙ take_more stack h (pos 0) within in
    let parts = same_from_push now.0 (take h stack) now.1 (get_or stack h (pos 0)) top in
    let left : Runs env now.0 (value_of_binary op (get_or stack h (pos 0)) last) rest end = subst (λ (a : ℤ). Runs env now.0 (value_of_binary op a last) rest end) parts.1 now.3 in
    subst (λ (l : List ℤ). Runs env l (value_of_binary op (get_or stack h (pos 0)) last) rest end) parts.0 left

-- a choice finds its condition and its first value there
pub some_choice : (env stack : List ℤ) (height : ℕ) (last : ℤ) (x y z : ℕ) (nodes rest : List (Node ℕ)) (end : ℤ)
    → nodes ≡ Pick x y z ∷ rest → Runs env (take height stack) last nodes end → 2 ≤ height
unfolding Runs
some_choice env stack height last x y z nodes rest end is runs =
    let now : Runs env (take height stack) last (Pick x y z ∷ rest) end = subst (λ (l : List (Node ℕ)). Runs env (take height stack) last l end) is runs in
    omega (arith, ap length now.3, length_push (now.0 ++ now.1 ∷ []) now.2, length_push now.0 now.1, length-take height stack)

pub runs_choice : (env stack : List ℤ) (height h : ℕ) (last : ℤ) (x y z : ℕ) (nodes rest : List (Node ℕ)) (end : ℤ)
    → nodes ≡ Pick x y z ∷ rest → h + 2 ≡ height → height ≤ length stack → Runs env (take height stack) last nodes end
    → Runs env (take h stack) (value_of_choice (get_or stack h (pos 0)) (get_or stack (h + 1) (pos 0)) last) rest end
unfolding Runs
runs_choice env stack height h last x y z nodes rest end is size room runs =
    let now : Runs env (take height stack) last (Pick x y z ∷ rest) end = subst (λ (l : List (Node ℕ)). Runs env (take height stack) last l end) is runs in
    let condition = get_or stack h (pos 0) in
    let yes = get_or stack (h + 1) (pos 0) in
    let within : h < length stack = omega arith in
    let within_next : h + 1 < length stack = omega arith in
    let steps : h + 1 + 1 ≡ height = omega arith in
    let top : (now.0 ++ now.1 ∷ []) ++ now.2 ∷ [] ≡ take (h + 1) stack ++ yes ∷ [] = sym now.3 ∙ ap (λ (k : ℕ). take k stack) (sym steps) ∙ take_more stack (h + 1) (pos 0) within_next in
    let first = same_from_push (now.0 ++ now.1 ∷ []) (take (h + 1) stack) now.2 yes top in
    let under : now.0 ++ now.1 ∷ [] ≡ take h stack ++ condition ∷ [] = first.0 ∙ take_more stack h (pos 0) within in
    let second = same_from_push now.0 (take h stack) now.1 condition under in
    let one : Runs env now.0 (value_of_choice now.1 yes last) rest end = subst (λ (a : ℤ). Runs env now.0 (value_of_choice now.1 a last) rest end) first.1 now.4 in
    let both : Runs env now.0 (value_of_choice condition yes last) rest end = subst (λ (a : ℤ). Runs env now.0 (value_of_choice a yes last) rest end) second.1 one in
    subst (λ (l : List ℤ). Runs env l (value_of_choice condition yes last) rest end) second.0 both

-- a list is its first item and the others
pub first_and_rest : (nodes : List (Node ℕ)) (d x : Node ℕ) → 1 ≤ length nodes → get_or nodes 0 d ≡ x → nodes ≡ x ∷ take (length nodes - 1) (drop 1 nodes)
first_and_rest [] d x some is = absurd (omega arith)
first_and_rest (y ∷ ys) d x some is =
    let all : ys ≡ take (length (y ∷ ys) - 1) ys = sym (take_all (length (y ∷ ys) - 1) ys (omega arith)) in
    ap (λ (n : Node ℕ). n ∷ ys) is ∙ ap (λ (l : List (Node ℕ)). x ∷ l) all

-- the variables of the others are below the bound too, and so is the first if it is one
pub variables_after : (bound : ℕ) (x : Node ℕ) (nodes rest : List (Node ℕ)) → nodes ≡ x ∷ rest → VariablesBelow bound nodes → VariablesBelow bound rest
variables_after bound x nodes rest is below k v here = below (suc k) v (ap (λ (l : List (Node ℕ)). slice_get l (suc k)) is ∙ here)

pub first_variable : (bound v : ℕ) (nodes rest : List (Node ℕ)) → nodes ≡ Var v ∷ rest → VariablesBelow bound nodes → v < bound
first_variable bound v nodes rest is below = below 0 v (ap (λ (l : List (Node ℕ)). slice_get l 0) is)
