-- Lists of numbers.
use Rattle.std.specs.Prelude.{ℕ, ◌==◌, Bool, List}
use Rattle.std.specs.List.{list_any}

-- whether the number is one of these
abbrev pub is_in : List ℕ → ℕ → Bool
is_in numbers n = list_any (λ m. m == n) numbers
