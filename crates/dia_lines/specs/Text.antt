-- The lines of a text.
use Rattle.std.specs.Prelude.{ℕ, ◌-◌, Bool, not, ◌||◌, ◌==◌, List, [], ◌∷◌, length, take, slice_index_or, if◌then◌else◌}
use Rattle.std.specs.List.{slice_split}

-- a line feed ends a line
abbrev pub is_end : ℕ → Bool
is_end b = b == 10

-- a byte that a line has inside
abbrev pub is_inside : ℕ → Bool
is_inside b = not (b == 10 || b == 13)

-- a carriage return directly before the line feed belongs to the end
abbrev pub without_return : List ℕ → List ℕ
without_return text = if slice_index_or text (length text - 1) 0 == 13 then take (length text - 1) text else text

-- of the parts between the line feeds each but the last has one after it, and the last is a line if it isn't empty
abbrev pub lines_of_parts : List (List ℕ) → List (List ℕ)
lines_of_parts [] = []
lines_of_parts ([] ∷ []) = []
lines_of_parts ((b ∷ bs) ∷ []) = (b ∷ bs) ∷ []
lines_of_parts (text ∷ next ∷ parts) = without_return text ∷ lines_of_parts (next ∷ parts)

-- the lines of a text
unfoldable pub lines_of : List ℕ → List (List ℕ)
lines_of bytes = lines_of_parts (slice_split is_end bytes)
