-- The lets, one after another in an order in which each comes after those that it uses.
use Rattle.std.proofs.Common.{◌≡◌, ◌≢◌, ℕ, ℤ, pos, ◌<◌, ◌≤◌, ◌+◌, true, List, [], ◌∷◌, ◌++◌, length, take, get_or, slice_get, set, Some, refl, sym, ◌∙◌, ap, subst, arith, inl, inr, length-take, get_or-set_other}
use Rattle.std.specs.Prelude.{◌==◌}
use Rattle.std.specs.List.{Any}
use Rattle.std.proofs.lemmas.Bool.{cases_eq, cases_lt, eqb-true}
use Rattle.std.proofs.lemmas.List.{length-set, get_or-take}
use Rattle.std.proofs.lemmas.List.Folds.{Any-from_list_any}
use Rattle.std.proofs.lemmas.Option.{slice_get-get_or, slice_get_within, same_Some}
use Rattle.dbp_plan.specs.declared.diagram.Let.{Let}
use Rattle.dbp_plan.specs.declared.diagram.Task.{Task}
use Rattle.dbp_plan.specs.declared.expr.Expr.{Expr}
use Rattle.dbp_plan.specs.declared.node.Node.{Node}
use Rattle.dbp_plan.specs.declared.node.Node.TheVariants.{Var}
use Rattle.dbp_plan.specs.Closed.{let_base}
use Rattle.dbp_plan.specs.LetOrder.{IsLetOrder}
use Rattle.dbp_plan.specs.Tree.{Tree, number, variable, unary, binary, choice, size_of, root_of, nodes_of}
use Rattle.expr_eval.specs.Values.{value_of, tree_value, value_of_unary, value_of_binary, value_of_choice}
use Rattle.sync_meaning.specs.Meaning.{HasLets}
use Rattle.dbp_plan.specs.Ranking.{IsRanking}
use Rattle.dbp_plan.specs.ListItems.{all_place, after_place, front_place, pair_at, set_here, set_other}
use Rattle.dbp_plan.specs.Rankings.{task_of}

-- both environments have the same values at the variables of the nodes
pub record AgreeOn (nodes : List (Node ℕ)) (one other : List ℤ) : Type 0 where
  pub same : (k v : ℕ) → slice_get nodes k ≡ Some (Var v) → get_or one v (pos 0) ≡ get_or other v (pos 0)

agree_front : (xs ys : List (Node ℕ)) (one other : List ℤ) → AgreeOn (xs ++ ys) one other → AgreeOn xs one other
agree_front xs ys one other agree = record {
  same = λ k v at. agree.same k v (front_place xs ys k (slice_get_within xs k (Var v) at) ∙ at);
}

agree_after : (xs ys : List (Node ℕ)) (one other : List ℤ) → AgreeOn (xs ++ ys) one other → AgreeOn ys one other
agree_after xs ys one other agree = record {
  same = λ k v at. agree.same (length xs + k) v (after_place xs ys k ∙ at);
}

same_tree : (at : ℕ) (t : Tree ℕ) (one other : List ℤ) → AgreeOn (nodes_of at t) one other → tree_value one t ≡ tree_value other t
same_tree at (number z) one other agree = refl
same_tree at (variable v) one other agree = agree.same 0 v refl
same_tree at (unary op t) one other agree =
    ap (value_of_unary op) (same_tree at t one other (agree_front (nodes_of at t) (root_of at (unary op t) ∷ []) one other agree))
same_tree at (binary op l r) one other agree =
    let both : AgreeOn (nodes_of at l ++ nodes_of (at + size_of l) r) one other = agree_front (nodes_of at l ++ nodes_of (at + size_of l) r) (root_of at (binary op l r) ∷ []) one other agree in
    let left : tree_value one l ≡ tree_value other l = same_tree at l one other (agree_front (nodes_of at l) (nodes_of (at + size_of l) r) one other both) in
    let right : tree_value one r ≡ tree_value other r = same_tree (at + size_of l) r one other (agree_after (nodes_of at l) (nodes_of (at + size_of l) r) one other both) in
    ap (λ z. value_of_binary op z (tree_value one r)) left ∙ ap (λ z. value_of_binary op (tree_value other l) z) right
same_tree at (choice c y n) one other agree =
    let cs : List (Node ℕ) = nodes_of at c in
    let ys : List (Node ℕ) = nodes_of (at + size_of c) y in
    let ns : List (Node ℕ) = nodes_of (at + size_of c + size_of y) n in
    let all : AgreeOn ((cs ++ ys) ++ ns) one other = agree_front ((cs ++ ys) ++ ns) (root_of at (choice c y n) ∷ []) one other agree in
    let both : AgreeOn (cs ++ ys) one other = agree_front (cs ++ ys) ns one other all in
    let condition : tree_value one c ≡ tree_value other c = same_tree at c one other (agree_front cs ys one other both) in
    let yes : tree_value one y ≡ tree_value other y = same_tree (at + size_of c) y one other (agree_after cs ys one other both) in
    let no : tree_value one n ≡ tree_value other n = same_tree (at + size_of c + size_of y) n one other (agree_after (cs ++ ys) ns one other all) in
    ap (λ z. value_of_choice z (tree_value one y) (tree_value one n)) condition ∙ ap (λ z. value_of_choice (tree_value other c) z (tree_value one n)) yes ∙ ap (λ z. value_of_choice (tree_value other c) (tree_value other y) z) no

-- an expression has one value in both
pub same_value : (e : Expr ℕ) (one other : List ℤ) → AgreeOn e.nodes one other → value_of e one ≡ value_of e other
same_value e one other agree = same_tree 0 e.tree.0 one other (subst (λ (nodes : List (Node ℕ)). AgreeOn nodes one other) e.tree.1 agree)

-- the lets at the first places of the order have their values
pub record LetsUpTo (n : ℕ) (task : Task) (before after : List ℤ) : Type 0 where
  pub size : length after ≡ length before
  pub given : (j : ℕ) → j < let_base task → slice_get after j ≡ slice_get before j
  pub value : (p k : ℕ) (l : Let) → p < n → slice_get task.order p ≡ Some k → slice_get task.lets k ≡ Some l → slice_get after (let_base task + k) ≡ Some (value_of l.expr after)

pub lets_none : (task : Task) (before : List ℤ) → LetsUpTo 0 task before before
lets_none task before = record {
  size = refl;
  given = λ j below. refl;
  value = λ p k l below. absurd (omega arith);
}

-- what a let at a place of the order uses is no let at this place or after it
apart_from : (task : Task) (p q i k v at : ℕ) (l : Let) → IsLetOrder (let_base task) task.lets task.order → slice_get task.order p ≡ Some k → slice_get task.lets k ≡ Some l → slice_get l.expr.nodes at ≡ Some (Var v)
    → p ≤ q → slice_get task.order q ≡ Some i → v ≢ let_base task + i
apart_from task p q i k v at l order at_k at_l at_v le at_i same =
    let used : Any (λ j. (let_base task + j == v) ≡ true) (take p task.order) = Any-from_list_any (λ j. let_base task + j == v) (take p task.order) (order.after p k at v l at_k at_l at_v (omega arith)) in
    let place : let_base task + used.1 ≡ v = eqb-true (let_base task + used.1) v used.4 in
    let lower : used.0 < p = omega (arith, used.2, length-take p task.order) in
    let inside : used.0 < length task.order = omega (arith, used.2, length-take p task.order) in
    let there : slice_get task.order used.0 ≡ Some used.1 = slice_get-get_or task.order used.0 used.1 inside ∙ ap (λ (j : ℕ). Some j) (sym (get_or-take p task.order used.0 used.1 lower) ∙ used.3) in
    let other : used.1 ≢ i = pair_at (λ (a b : ℕ). a ≢ b) task.order used.0 q used.1 i order.once (omega arith) there at_i in
    other (omega arith)

-- so its value stays when this let is written
stays : (task : Task) (p q i k : ℕ) (l : Let) (value : ℤ) (env : List ℤ) → IsLetOrder (let_base task) task.lets task.order → slice_get task.order p ≡ Some k → slice_get task.lets k ≡ Some l → p ≤ q → slice_get task.order q ≡ Some i
    → value_of l.expr (set env (let_base task + i) value) ≡ value_of l.expr env
stays task p q i k l value env order at_k at_l le at_i =
    same_value l.expr (set env (let_base task + i) value) env (record {
      same = λ at v at_v. get_or-set_other env (let_base task + i) v value (pos 0) (apart_from task p q i k v at l order at_k at_l at_v le at_i);
    })

pub lets_more : (n i : ℕ) (l : Let) (task : Task) (before after : List ℤ) → IsLetOrder (let_base task) task.lets task.order → slice_get task.order n ≡ Some i → slice_get task.lets i ≡ Some l → let_base task + i < length after
    → LetsUpTo n task before after → LetsUpTo (n + 1) task before (set after (let_base task + i) (value_of l.expr after))
lets_more n i l task before after order at_i at_l inside done =
    let place : ℕ = let_base task + i in
    let value : ℤ = value_of l.expr after in
    record {
      size = length-set after place value ∙ done.size;
      given = λ j below.
          let other : j ≢ place = λ e. omega arith in
          set_other after place j value other ∙ done.given j below;
      value = λ p k m below at_k at_m. elim (cases_eq p n) [
        | inl same ↦
            let number : i ≡ k = same_Some _ _ (sym at_i ∙ ap (λ q. slice_get task.order q) (sym same) ∙ at_k) in
            let one : l ≡ m = same_Some _ _ (sym at_l ∙ ap (λ q. slice_get task.lets q) number ∙ at_m) in
            let old : value_of l.expr (set after place value) ≡ value = stays task n n i i l value after order at_i at_l (omega arith) at_i in
            ap (λ q. slice_get (set after place value) (let_base task + q)) (sym number) ∙ set_here after place value inside ∙ ap (λ (z : ℤ). Some z) (sym old ∙ ap (λ (q : Let). value_of q.expr (set after place value)) one)
        | inr apart ↦
            let lower : p < n = omega arith in
            let numbers : k ≢ i = pair_at (λ (a b : ℕ). a ≢ b) task.order p n k i order.once lower at_k at_i in
            let other : let_base task + k ≢ place = λ e. numbers (omega arith) in
            let old : value_of m.expr (set after place value) ≡ value_of m.expr after = stays task p n i k m value after order at_k at_m (omega arith) at_i in
            set_other after place (let_base task + k) value other ∙ done.value p k m lower at_k at_m ∙ ap (λ (z : ℤ). Some z) (sym old)
      ];
    }

-- each let stands in the order
order_apart : (task : Task) (i j r : ℕ) → IsLetOrder (let_base task) task.lets task.order → slice_get task.order i ≡ Some r → slice_get task.order j ≡ Some r → i ≡ j
order_apart task i j r order at_i at_j = elim (cases_lt i j) [
  | inl less ↦ absurd (pair_at (λ (a b : ℕ). a ≢ b) task.order i j r r order.once less at_i at_j refl)
  | inr more ↦ elim (cases_lt j i) [
    | inl less ↦ absurd (pair_at (λ (a b : ℕ). a ≢ b) task.order j i r r order.once less at_j at_i refl)
    | inr same ↦ omega arith
  ]
]

pub order_ranking : (task : Task) → IsLetOrder (let_base task) task.lets task.order → IsRanking task.order
order_ranking task order = record {
  below = λ i r at. omega (arith, all_place (λ k. k < length task.lets) task.order i r order.named at, order.size);
  apart = λ i j r at_i at_j. order_apart task i j r order at_i at_j;
}

pub lets_all : (n : ℕ) (task : Task) (before after : List ℤ) → IsLetOrder (let_base task) task.lets task.order → length task.order ≤ n → LetsUpTo n task before after → HasLets task after
lets_all n task before after order all done k l at_l =
    let below : k < length task.order = omega (arith, slice_get_within task.lets k l at_l, order.size) in
    let place : (p : ℕ) × (slice_get task.order p ≡ Some k) = task_of task.order k (order_ranking task order) below in
    done.value place.0 k l (omega (arith, slice_get_within task.order place.0 k place.1)) place.1 at_l
