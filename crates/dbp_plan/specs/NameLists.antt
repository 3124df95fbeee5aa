-- Lists of names, and where a name stands in one.
use Rattle.std.specs.Prelude.{ℕ, Bool, List}
use Rattle.std.specs.List.{list_any, position_or_len}
use Rattle.std.specs.Str.{bytes_eq}

-- whether the name is one of these
abbrev pub is_among : List (List ℕ) → List ℕ → Bool
is_among names n = list_any (λ m. bytes_eq m n) names

-- the index of the name: the first, if it stands at several, and the length, if it stands at none
abbrev pub index_of : List (List ℕ) → List ℕ → ℕ
index_of names n = position_or_len (λ m. bytes_eq m n) names
