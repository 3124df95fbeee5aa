-- Tokens as texts.
use Rattle.std.specs.Prelude.{ℕ, List}
use Rattle.dia_tokens.specs.declared.token.Symbol.{Symbol}
use Rattle.dia_tokens.specs.declared.token.Keyword.{Keyword}
use Rattle.dia_tokens.specs.declared.piece.Piece.{Piece as Held}
use Rattle.dia_tokens.specs.declared.piece.Piece.TheVariants as held

-- a token, with its text if that matters
pub data Piece : Type 0 where
  keyword : Keyword → Piece
  name : List ℕ → Piece
  number : List ℕ → Piece
  symbol : Symbol → Piece

-- what the code has, without where it lies in memory
abbrev pub seen : Held → Piece
seen (held.Keyword w) = keyword w
seen (held.Name t) = name t.now
seen (held.Number t) = number t.now
seen (held.Symbol s) = symbol s
