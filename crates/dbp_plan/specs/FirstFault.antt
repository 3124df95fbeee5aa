-- The first of the lines that have a fault.
use Rattle.std.specs.Prelude.{ℕ, List, [], ◌∷◌, ◌++◌, Option, Some, None}

-- each item with the number of its line and its first fault, after the items before it
abbrev pub faults_after : {A F : Type 0} → (List A → A → Option F) → List A → List A → List ℕ → List (ℕ × Option F)
faults_after fault before (x ∷ xs) (n ∷ ns) = (n, fault before x) ∷ faults_after fault (before ++ x ∷ []) xs ns
faults_after fault before _ _ = []

-- the first line that has a fault, with its first fault
abbrev pub first_fault : {F : Type 0} → List (ℕ × Option F) → Option (ℕ × F)
first_fault [] = None
first_fault ((n, None) ∷ rest) = first_fault rest
first_fault ((n, Some fault) ∷ rest) = Some (n, fault)
