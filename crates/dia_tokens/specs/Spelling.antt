-- How tokens are spelled.
use Rattle.std.specs.Prelude.{◌≡◌, ℕ, Bool, true, false, List, [], ◌∷◌, ◌++◌, codes}
use Rattle.dia_tokens.specs.declared.token.Symbol.{Symbol}
use Rattle.dia_tokens.specs.declared.token.Symbol.TheVariants.{Assign, Equal, Unequal, Less, AtMost, Greater, AtLeast, Plus, Minus, Star, Slash, Percent, Open, Close, Comma, Point}
use Rattle.dia_tokens.specs.Lexes.{Lexes}
use Rattle.dia_tokens.specs.Pieces.{Piece, keyword, name, number, symbol}
use Rattle.dia_tokens.specs.Keywords.{keyword_text}

abbrev pub symbol_text : Symbol → List ℕ
symbol_text Assign = codes "="
symbol_text Equal = codes "=="
symbol_text Unequal = codes "!="
symbol_text Less = codes "<"
symbol_text AtMost = codes "<="
symbol_text Greater = codes ">"
symbol_text AtLeast = codes ">="
symbol_text Plus = codes "+"
symbol_text Minus = codes "-"
symbol_text Star = codes "*"
symbol_text Slash = codes "/"
symbol_text Percent = codes "%"
symbol_text Open = codes "("
symbol_text Close = codes ")"
symbol_text Comma = codes ","
symbol_text Point = codes "."

abbrev pub text_of : Piece → List ℕ
text_of (keyword w) = keyword_text w
text_of (name text) = text
text_of (number text) = text
text_of (symbol s) = symbol_text s

-- the token's text, after a space unless it is the first
abbrev pub spaced : Bool → Piece → List ℕ
spaced true p = text_of p
spaced false p = 32 ∷ text_of p

-- the texts of the tokens, joined by one space
abbrev pub joined : List Piece → List ℕ
joined [] = []
joined (p ∷ []) = text_of p
joined (p ∷ q ∷ ps) = text_of p ++ 32 ∷ joined (q ∷ ps)

-- the line's tokens as they are spelled, joined by one space
abbrev pub IsSpelling : List ℕ → List ℕ → Type 0
IsSpelling line text = (ps : List Piece) × Lexes true line ps × (text ≡ joined ps)
