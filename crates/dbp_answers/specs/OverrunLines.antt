-- The lines of an overrun.
use Rattle.std.specs.Prelude.{ℕ, List, [], ◌∷◌, ◌++◌, codes}
use Rattle.std.specs.Fmt.{decimal}

-- these words, then `TASK N at T`, ended by LF (10); a space is 32
abbrev pub overrun_after : List ℕ → List ℕ → ℕ → ℕ → List ℕ
overrun_after words name number time = words ++ name ++ 32 ∷ decimal number ++ codes " at " ++ decimal time ++ 10 ∷ []

abbrev pub overrun_line : List ℕ → ℕ → ℕ → List ℕ
overrun_line name number time = overrun_after (codes "overrun: ") name number time
