-- The search for a cycle through a let.
use Rattle.std.specs.Prelude.{◌≡◌, ℕ, ◌<◌, Contains, List, length, slice_get, Some}
use Rattle.dbp_plan.specs.declared.diagram.Let.{Let}
use Rattle.dbp_plan.specs.Listed.{AreListed}
use Rattle.expr_eval.specs.LetOrders.{Uses}

-- the let uses one of these
abbrev pub UsesOneOf : ℕ → List Let → List ℕ → ℕ → Type 0
UsesOneOf base lets found i = (j : ℕ) × Contains found j × Uses base lets i j

abbrev pub UsesNoneOf : ℕ → List Let → List ℕ → ℕ → Type 0
UsesNoneOf base lets found i = (j : ℕ) → Contains found j → Uses base lets i j → ⊥

-- the earliest let that isn't among these and uses one of them
pub record IsNextUser (base : ℕ) (lets : List Let) (found : List ℕ) (i : ℕ) : Type 0 where
  pub named : i < length lets
  pub new : Contains found i → ⊥
  pub user : UsesOneOf base lets found i
  pub earliest : (k : ℕ) → k < i → (Contains found k → ⊥) → UsesNoneOf base lets found k

-- the place of the first of these that the user uses
pub record IsFirstUsed (base : ℕ) (lets : List Let) (found : List ℕ) (user place : ℕ) : Type 0 where
  pub used : ℕ
  pub is : slice_get found place ≡ Some used
  pub uses : Uses base lets user used
  pub first : (k j : ℕ) → k < place → slice_get found k ≡ Some j → Uses base lets user j → ⊥

-- the target, and lets of which each uses one before it: so uses lead from each of them to the target
pub record LeadTo (base : ℕ) (lets : List Let) (target : ℕ) (found : List ℕ) : Type 0 where
  pub listed : AreListed (length lets) found
  pub begins : slice_get found 0 ≡ Some target
  pub linked : (k i : ℕ) → 0 < k → slice_get found k ≡ Some i → (m : ℕ) × (j : ℕ) × (m < k) × (slice_get found m ≡ Some j) × Uses base lets i j

-- all that use one of them are among them
abbrev pub AreAllLeading : ℕ → List Let → List ℕ → Type 0
AreAllLeading base lets found = (i j : ℕ) → Contains found j → Uses base lets i j → Contains found i
