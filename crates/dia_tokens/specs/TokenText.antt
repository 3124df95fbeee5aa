-- How tokens are written on a line.
use Rattle.std.specs.Prelude.{ℕ, Bool, true, false, ◌||◌, if◌then◌else◌, List, [], ◌∷◌, ◌++◌}
use Rattle.std.specs.Fmt.{signed_decimal}
use Rattle.dia_tokens.specs.declared.token.Token.{Token}
use Rattle.dia_tokens.specs.declared.token.Token.TheVariants.{Keyword, Name, Number, Symbol}
use Rattle.dia_tokens.specs.declared.token.Symbol.TheVariants.{Open, Close, Comma, Point}
use Rattle.dia_tokens.specs.Pieces.{Piece, keyword, name, number, symbol}
use Rattle.dia_tokens.specs.Spelling.{text_of}
use Rattle.dia_tokens.specs.Keywords.{begins_call}
use Rattle.dia_tokens.specs.declared.edge.Edge.{Edge}
use Rattle.dia_tokens.specs.declared.edge.Edge.TheVariants.{Tight, Call, Loose}

-- a token with its text: a number is written in decimal, without needless zeros
abbrev pub piece_of : Token → Piece
piece_of (Keyword w) = keyword w
piece_of (Name text) = name text
piece_of (Number z) = number (signed_decimal z)
piece_of (Symbol s) = symbol s

abbrev pub token_text : Token → List ℕ
token_text t = text_of (piece_of t)

-- what a line that ends with the token is like: no space stands after `(` and the point, and none between a keyword that begins a call and its `(`
abbrev pub edge_of : Token → Edge
edge_of (Symbol Open) = Tight
edge_of (Symbol Point) = Tight
edge_of (Keyword w) = if begins_call w then Call else Loose
edge_of _ = Loose

-- no space stands before `)`, the comma and the point
abbrev pub clings : Token → Bool
clings (Symbol Close) = true
clings (Symbol Comma) = true
clings (Symbol Point) = true
clings _ = false

abbrev pub is_open : Token → Bool
is_open (Symbol Open) = true
is_open _ = false

-- whether a space stands between the end of a line and a token
abbrev pub is_apart : Edge → Token → Bool
is_apart Tight t = false
is_apart Call t = if is_open t || clings t then false else true
is_apart Loose t = if clings t then false else true

abbrev pub gap : Edge → Token → List ℕ
gap edge t = if is_apart edge t then 32 ∷ [] else []

-- the tokens after a line's end: one space stands between two, with these exceptions
abbrev pub text_after : Edge → List Token → List ℕ
text_after edge [] = []
text_after edge (t ∷ ts) = gap edge t ++ token_text t ++ text_after (edge_of t) ts

-- the line of the tokens
abbrev pub line_text : List Token → List ℕ
line_text ts = text_after Tight ts

-- the tokens on a line of their own
abbrev pub line_of : List Token → List ℕ
line_of ts = line_text ts ++ 10 ∷ []
