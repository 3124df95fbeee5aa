-- The texts that names and numbers have, and why a text has no value.
use Rattle.std.specs.Prelude.{◌≡◌, ℕ, false, List, ◌∷◌, Option, Some}
use Rattle.dia_tokens.specs.declared.kind.Kind.TheVariants.{Letter, Digit, Dash}
use Rattle.dia_tokens.specs.declared.line.LineFail.{LineFail}
use Rattle.dia_tokens.specs.declared.line.LineFail.TheVariants as line
use Rattle.dia_tokens.specs.declared.values.ValueFail.{ValueFail}
use Rattle.dia_tokens.specs.declared.values.ValueFail.TheVariants.{NumberTooWide, NameTooLong}
use Rattle.dia_tokens.specs.Kinds.{kind_of, is_name, is_digit}
use Rattle.dia_tokens.specs.Lexes.{Passes}
use Rattle.dia_tokens.specs.Pieces.{Piece, name, number}
use Rattle.dia_tokens.specs.Values.{is_narrow, is_short}

-- a letter, with letters and digits after it
pub data IsNameText : List ℕ → Type 0 where
  letters : (b : ℕ) (text : List ℕ) → kind_of b ≡ Letter → Passes is_name text → IsNameText (b ∷ text)

-- digits, with a `-` at the front or without
pub data IsNumberText : List ℕ → Type 0 where
  plain : (b : ℕ) (text : List ℕ) → kind_of b ≡ Digit → Passes is_digit text → IsNumberText (b ∷ text)
  negative : (dash b : ℕ) (text : List ℕ) → kind_of dash ≡ Dash → kind_of b ≡ Digit → Passes is_digit text → IsNumberText (dash ∷ b ∷ text)

abbrev pub IsShaped : Piece → Type 0
IsShaped (name text) = IsNameText text
IsShaped (number text) = IsNumberText text
IsShaped _ = Unit {0}

-- why a token has no value
abbrev pub FailsOn : Piece → ValueFail → Type 0
FailsOn p NumberTooWide = is_narrow p ≡ false
FailsOn p NameTooLong = is_short p ≡ false

-- the fault of two that is said
abbrev pub first_fault : Option ValueFail → ValueFail → ValueFail
first_fault (Some NumberTooWide) fail = NumberTooWide
first_fault _ fail = fail

-- the fault of the line
abbrev pub line_fail : ValueFail → LineFail
line_fail NumberTooWide = line.NumberTooWide
line_fail NameTooLong = line.NameTooLong
