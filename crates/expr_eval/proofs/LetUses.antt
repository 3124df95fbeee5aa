-- The variables of a let's nodes, and the lets that it uses.
use Rattle.std.proofs.Common.{◌≡◌, ℕ, ◌+◌, ◌<◌, List, length, slice_get, get_or, true, false, Option, Some, None, MatchOption, sym, ◌∙◌, ap, arith, inl, inr, eqb-true, eq-eqb}
use Rattle.std.specs.Option.{option_eq}
use Rattle.std.proofs.Math.Dec.{eqb}
use Rattle.std.proofs.lemmas.Bool.{cases_eq}
use Rattle.std.proofs.lemmas.Option.{same_Some, slice_get_within, slice_get-get_or}
use Rattle.dbp_plan.specs.declared.node.Node.{Node}
use Rattle.dbp_plan.specs.declared.node.Node.TheVariants.{Var}
use Rattle.dbp_plan.specs.declared.diagram.Let.{Let}
use Rattle.expr_eval.specs.LetOrders.{Uses}

-- a let that was read from the items of the list
pub let_read : (lets items : List Let) (i : ℕ) (d : Let) → items ≡ lets → i < length lets → slice_get lets i ≡ Some (get_or items i d)
let_read lets items i d same below = ap (λ (z : List Let). slice_get z i) (sym same) ∙ slice_get-get_or items i d (omega (arith, ap length same))

-- a node that was read from the items of the let's nodes
pub use_read : (base : ℕ) (lets : List Let) (i j : ℕ) (l : Let) (nodes : List (Node ℕ)) (k : ℕ) (node : Node ℕ)
    → slice_get lets i ≡ Some l → nodes ≡ l.expr.nodes → slice_get nodes k ≡ Some node → node ≡ Var (base + j) → Uses base lets i j
use_read base lets i j l nodes k node there same here is = record {
  user = l;
  place = k;
  is = there;
  variable = ap (λ (z : List (Node ℕ)). slice_get z k) (sym same) ∙ here ∙ ap (λ (z : Node ℕ). Some z) is;
}

-- a let that is used has its variable among the nodes
pub use_place : (base : ℕ) (lets : List Let) (i j : ℕ) (l : Let) (nodes : List (Node ℕ))
    → slice_get lets i ≡ Some l → nodes ≡ l.expr.nodes → Uses base lets i j → (k : ℕ) × (k < length nodes) × (slice_get nodes k ≡ Some (Var (base + j)))
use_place base lets i j l nodes there same used =
    let user : used.user ≡ l = same_Some used.user l (sym used.is ∙ there) in
    let here : slice_get nodes used.place ≡ Some (Var (base + j)) = ap (λ (z : List (Node ℕ)). slice_get z used.place) (same ∙ ap (λ (z : Let). z.expr.nodes) (sym user)) ∙ used.variable in
    (used.place, slice_get_within nodes used.place (Var (base + j)) here, here)

-- a node names one let at most
pub one_let : (base i j : ℕ) (node : Node ℕ) → node ≡ Var (base + i) → node ≡ Var (base + j) → i ≡ j
one_let base i j node one other = let places : base + i ≡ base + j = cc in omega arith

-- what holds of the variables of the nodes so far, and of those of the next node
pub variables_more : (P : ℕ → Type 0) (base : ℕ) (nodes : List (Node ℕ)) (n : ℕ) (node : Node ℕ)
    → slice_get nodes n ≡ Some node → ((j : ℕ) → node ≡ Var (base + j) → P j)
    → ((k j : ℕ) → k < n → slice_get nodes k ≡ Some (Var (base + j)) → P j)
    → (k j : ℕ) → k < n + 1 → slice_get nodes k ≡ Some (Var (base + j)) → P j
variables_more P base nodes n node here holds before k j below at = elim (cases_eq k n) [
  | inl same ↦ holds j (same_Some node (Var (base + j)) (sym here ∙ ap (λ (m : ℕ). slice_get nodes m) (sym same) ∙ at))
  | inr apart ↦ before k j (omega arith) at
]

-- what the let of a node says, if it is compared with a let
pub used_node : (r : Option ℕ) (base used : ℕ) (node : Node ℕ) → MatchOption r ((j : ℕ) → node ≡ Var (base + j) → ⊥) (λ j. node ≡ Var (base + j))
    → true ≡ option_eq eqb r (Some used) → node ≡ Var (base + used)
used_node None base used node is same = cc
used_node (Some x) base used node is same = let one : x ≡ used = eqb-true x used (sym same) in cc

pub unused_node : (r : Option ℕ) (base used : ℕ) (node : Node ℕ) → MatchOption r ((j : ℕ) → node ≡ Var (base + j) → ⊥) (λ j. node ≡ Var (base + j))
    → false ≡ option_eq eqb r (Some used) → (j : ℕ) → node ≡ Var (base + j) → j ≡ used → ⊥
unused_node None base used node is other j at same = is j at
unused_node (Some x) base used node is other j at same =
    let one : x ≡ used = one_let base x j node is at ∙ same in
    let test : eqb x used ≡ true = eq-eqb x used one in
    cc
