-- Variables of expressions, and orders of lets.
use Rattle.std.specs.Prelude.{◌≡◌, ◌≢◌, ℕ, ◌+◌, ◌<◌, ◌≤◌, ◌==◌, IsTrue, All, AllPairs, List, length, take, slice_get, Some}
use Rattle.std.specs.List.{list_any}
use Rattle.dbp_plan.specs.declared.node.Node.{Node}
use Rattle.dbp_plan.specs.declared.node.Node.TheVariants.{Var}
use Rattle.dbp_plan.specs.declared.diagram.Let.{Let}

-- each variable of the nodes is below the bound
abbrev pub VariablesBelow : ℕ → List (Node ℕ) → Type 0
VariablesBelow bound nodes = (k v : ℕ) → slice_get nodes k ≡ Some (Var v) → v < bound

-- The order holds each let once, and each after those that it uses. The variable of a let is the base plus its place.
pub record IsLetOrder (base : ℕ) (lets : List Let) (order : List ℕ) : Type 0 where
  pub size : length order ≡ length lets
  pub named : All (λ i. i < length lets) order
  pub once : AllPairs (λ i j. i ≢ j) order
  pub after : (p i k v : ℕ) (l : Let) → slice_get order p ≡ Some i → slice_get lets i ≡ Some l → slice_get l.expr.nodes k ≡ Some (Var v) → base ≤ v → IsTrue (list_any (λ j. (base + j) == v) (take p order))
