-- The tokens of a line, and its first fault.
use Rattle.std.specs.Prelude.{◌≡◌, ℕ, true, false, List}
use Rattle.std.specs.List.{list_all}
use Rattle.dia_tokens.specs.declared.token.Token.{Token}
use Rattle.dia_tokens.specs.declared.line.LineFail.{LineFail}
use Rattle.dia_tokens.specs.declared.line.LineFail.TheVariants.{BadByte, BadToken, NumberTooWide, NameTooLong, NoMemory}
use Rattle.dia_tokens.specs.Kinds.{is_allowed}
use Rattle.dia_tokens.specs.Pieces.{Piece}
use Rattle.dia_tokens.specs.Lexes.{Lexes}
use Rattle.dia_tokens.specs.Reading.{bad, token_at}
use Rattle.dia_tokens.specs.Values.{is_narrow, is_short, HaveValues}

-- the line spells the tokens
pub record Spells (line : List ℕ) (ts : List Token) : Type 0 where
  pub texts : List Piece
  pub allowed : list_all is_allowed line ≡ true
  pub lexes : Lexes true line texts
  pub values : HaveValues texts ts

-- the first fault of a line
pub data HasFault : List ℕ → LineFail → Type 0 where
  a_bad_byte : (line : List ℕ) → list_all is_allowed line ≡ false → HasFault line BadByte
  a_bad_token : (line : List ℕ) → list_all is_allowed line ≡ true → ((ps : List Piece) → Lexes true line ps → ⊥) → HasFault line BadToken
  a_wide_number : (line : List ℕ) (ps : List Piece) → list_all is_allowed line ≡ true → Lexes true line ps
      → list_all is_narrow ps ≡ false → HasFault line NumberTooWide
  a_long_name : (line : List ℕ) (ps : List Piece) → list_all is_allowed line ≡ true → Lexes true line ps
      → list_all is_narrow ps ≡ true → list_all is_short ps ≡ false → HasFault line NameTooLong

-- the line begins with a text that makes no token
abbrev pub HasBadStart : List ℕ → Type 0
HasBadStart line = (list_all is_allowed line ≡ true) × (token_at true line ≡ bad)

-- what holds if a line was refused: if memory ran out nothing is said
abbrev pub Refuses : List ℕ → LineFail → Type 0
Refuses line NoMemory = Unit {0}
Refuses line fault = HasFault line fault
