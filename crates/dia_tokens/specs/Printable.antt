-- Tokens that a text can have.
use Rattle.std.specs.Prelude.{◌≡◌, ℕ, ℤ, pos, negsuc, ◌<◌, ◌^◌, List}
use Rattle.dbp_plan.specs.Name.{IsName}
use Rattle.dia_tokens.specs.declared.token.Token.{Token}
use Rattle.dia_tokens.specs.declared.token.Token.TheVariants.{Name, Number}
use Rattle.dia_tokens.specs.Pieces.{name}
use Rattle.dia_tokens.specs.Keywords.{keyword_of}

-- a name that is no keyword
abbrev pub IsPrintableName : List ℕ → Type 0
IsPrintableName text = IsName text × (keyword_of text ≡ name text)

-- a number from -2^63 to 2^63 - 1; `negsuc n` is -n - 1
abbrev pub IsPrintableNumber : ℤ → Type 0
IsPrintableNumber (pos n) = n < 2 ^ 63
IsPrintableNumber (negsuc n) = n < 2 ^ 63

-- a token that a text can have
abbrev pub IsPrintableToken : Token → Type 0
IsPrintableToken (Name text) = IsPrintableName text
IsPrintableToken (Number z) = IsPrintableNumber z
IsPrintableToken _ = Unit {0}
