-- Marks of slots, one for each of the first slots.
use Rattle.std.specs.Prelude.{ℕ, Bool, true, List, slice_set}
use Rattle.std.specs.List.{fold}

-- the marks after those of these slots are made; a slot after the last mark gets none
abbrev pub marks_after : List Bool → List ℕ → List Bool
marks_after marks slots = fold (λ made slot. slice_set made slot true) marks slots
