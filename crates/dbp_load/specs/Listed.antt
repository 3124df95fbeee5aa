-- Lists of numbered items.
use Rattle.std.specs.Prelude.{ℕ, zero, suc, List, [], ◌∷◌, ◌++◌}

-- the items with the numbers from 0 on, so many of them
abbrev pub first_items : {A : Type 0} → (ℕ → A) → ℕ → List A
first_items item zero = []
first_items item (suc n) = first_items item n ++ item n ∷ []
