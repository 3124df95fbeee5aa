-- The token at the beginning of a line.
use Rattle.std.specs.Prelude.{ℕ, ◌+◌, Bool, false, List, [], ◌∷◌, take, drop, ◌&&◌, if◌then◌else◌}
use Rattle.std.specs.List.{prefix_len}
use Rattle.dia_tokens.specs.declared.token.Symbol.TheVariants.{Unequal, Minus}
use Rattle.dia_tokens.specs.declared.kind.Kind.{Kind}
use Rattle.dia_tokens.specs.declared.kind.Kind.TheVariants.{Hash, Letter, Digit, Dash, Bang, Pair, Plain}
use Rattle.dia_tokens.specs.Kinds.{kind_of, is_name, is_digit, is_blank, is_equals}
use Rattle.dia_tokens.specs.Pieces.{Piece, number, symbol}
use Rattle.dia_tokens.specs.Keywords.{keyword_of}

-- what stands at the front
pub data Front : Type 0 where
  nothing : Front
  bad : Front
  found : Piece → List ℕ → Front

abbrev pub begins : (ℕ → Bool) → List ℕ → Bool
begins p [] = false
begins p (b ∷ bs) = p b

abbrev pub name_in : List ℕ → Front
name_in line = found (keyword_of (take (prefix_len is_name line) line)) (drop (prefix_len is_name line) line)

-- a number after so many bytes of sign
abbrev pub number_in : ℕ → List ℕ → Front
number_in sign line =
    let n = sign + prefix_len is_digit (drop sign line) in
    if begins is_name (drop n line) then bad else found (number (take n line)) (drop n line)

-- if the line's first byte is of the kind
abbrev pub front_of : Bool → Kind → List ℕ → Front
front_of signed Hash line = nothing
front_of signed Letter line = name_in line
front_of signed Digit line = number_in 0 line
front_of signed Dash line = if signed && begins is_digit (drop 1 line) then number_in 1 line else found (symbol Minus) (drop 1 line)
front_of signed Bang line = if begins is_equals (drop 1 line) then found (symbol Unequal) (drop 2 line) else bad
front_of signed (Pair short long) line = if begins is_equals (drop 1 line) then found (symbol long) (drop 2 line) else found (symbol short) (drop 1 line)
front_of signed (Plain x) line = found (symbol x) (drop 1 line)
front_of signed _ line = bad

-- if no blank is at the front
abbrev pub token_in : Bool → List ℕ → Front
token_in signed [] = nothing
token_in signed (b ∷ bs) = front_of signed (kind_of b) (b ∷ bs)

unfoldable pub token_at : Bool → List ℕ → Front
token_at signed line = token_in signed (drop (prefix_len is_blank line) line)
