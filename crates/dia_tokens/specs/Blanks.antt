-- Lines without tokens.
use Rattle.std.specs.Prelude.{ℕ, Bool, true, ◌==◌, ◌||◌, ◌&&◌, List, [], ◌∷◌}

abbrev pub is_space : ℕ → Bool
is_space b = b == 32 || b == 9

-- nothing but spaces, tabs and a comment
abbrev pub is_blank_line : List ℕ → Bool
is_blank_line [] = true
is_blank_line (b ∷ bs) = (b == 35) || (is_space b && is_blank_line bs)
