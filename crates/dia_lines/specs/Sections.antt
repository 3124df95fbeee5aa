-- The lines of the trace section.
use Rattle.std.specs.Prelude.{◌≡◌, ℕ, Bool, false, true, ◌==◌, ◌||◌, ◌⊎◌, List, ◌++◌, codes}
use Rattle.std.specs.List.{list_all}
use Rattle.std.specs.Char.{is_ascii_alphanumeric}
pub use Rattle.dia_tokens.specs.Blanks.{is_space}

-- a byte that may stand in the trace section
abbrev pub is_trace_byte : ℕ → Bool
is_trace_byte b = is_ascii_alphanumeric b || b == 95 || b == 45 || b == 44 || is_space b

-- the keyword with spaces and tabs around it
abbrev pub IsAlone : List ℕ → List ℕ → Type 0
IsAlone text line = (before after : List ℕ) × (list_all is_space before ≡ true) × (list_all is_space after ≡ true) × (line ≡ before ++ text ++ after)

-- a line of the trace section that ends it
abbrev pub EndsTrace : List ℕ → Type 0
EndsTrace line = IsAlone (codes "script") line ⊎ IsAlone (codes "done") line

-- a line of the trace section that is kept: it isn't blank, and doesn't end the section
pub record IsKeptRow (line : List ℕ) : Type 0 where
  pub full : list_all is_space line ≡ false
  pub inside : EndsTrace line → ⊥
