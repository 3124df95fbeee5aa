-- The values of tokens.
use Rattle.std.specs.Prelude.{◌≡◌, ℕ, ℤ, pos, neg_ℤ, ◌+◌, ◌-◌, ◌*◌, ◌^◌, Bool, true, nat_le, nat_lt, ◌==◌, List, [], ◌∷◌, length, drop, get_or, if◌then◌else◌}
use Rattle.dbp_plan.specs.declared.limits.TheConstants.{MAX_NAME}
use Rattle.dia_tokens.specs.declared.token.Symbol.{Symbol}
use Rattle.dia_tokens.specs.declared.token.Keyword.{Keyword}
use Rattle.dia_tokens.specs.declared.token.Token.{Token}
use Rattle.dia_tokens.specs.declared.token.Token.TheVariants as value
use Rattle.dia_tokens.specs.Pieces.{Piece, keyword, name, number, symbol}

-- the number that decimal digits make, after the number so far
abbrev pub digits_after : ℕ → List ℕ → ℕ
digits_after n [] = n
digits_after n (d ∷ ds) = digits_after (n * 10 + (d - 48)) ds

-- the number that decimal digits make
abbrev pub digits_value : List ℕ → ℕ
digits_value ds = digits_after 0 ds

-- whether the text begins with `-`
abbrev pub is_negative : List ℕ → Bool
is_negative text = get_or text 0 0 == 45

-- the number that a text of digits makes, with a `-` at the front or without
abbrev pub number_of : List ℕ → ℤ
number_of text = if is_negative text then neg_ℤ (pos (digits_value (drop 1 text))) else pos (digits_value text)

-- whether that number lies from -2^63 to 2^63 - 1
abbrev pub is_in_range : List ℕ → Bool
is_in_range text = if is_negative text then nat_le (digits_value (drop 1 text)) (2 ^ 63) else nat_lt (digits_value text) (2 ^ 63)

-- the token isn't a number outside of 64 bits
abbrev pub is_narrow : Piece → Bool
is_narrow (number text) = is_in_range text
is_narrow _ = true

-- the token isn't a name of more than `MAX_NAME` bytes
abbrev pub is_short : Piece → Bool
is_short (name text) = nat_le (length text) MAX_NAME
is_short _ = true

-- the token's text has the value
pub data HasValue : Piece → Token → Type 0 where
  of_keyword : (w : Keyword) → HasValue (keyword w) (value.Keyword w)
  of_name : (text : List ℕ) → nat_le (length text) MAX_NAME ≡ true → HasValue (name text) (value.Name text)
  of_number : (text : List ℕ) → is_in_range text ≡ true → HasValue (number text) (value.Number (number_of text))
  of_symbol : (s : Symbol) → HasValue (symbol s) (value.Symbol s)

-- each token's text has its value
pub data HaveValues : List Piece → List Token → Type 0 where
  none : HaveValues [] []
  another : (p : Piece) (t : Token) (ps : List Piece) (ts : List Token) → HasValue p t → HaveValues ps ts → HaveValues (p ∷ ps) (t ∷ ts)
