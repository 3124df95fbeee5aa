-- Where negative numbers stand among tokens.
use Rattle.std.specs.Prelude.{◌≡◌, negsuc, Bool, false, List, [], ◌∷◌}
use Rattle.dia_tokens.specs.declared.token.Token.{Token}
use Rattle.dia_tokens.specs.declared.token.Token.TheVariants.{Number}
use Rattle.dia_tokens.specs.Lexes.{signs}
use Rattle.dia_tokens.specs.TokenText.{piece_of}

-- the token is no negative number
abbrev pub IsUnsigned : Token → Type 0
IsUnsigned (Number (negsuc n)) = ⊥
IsUnsigned _ = Unit {0}

-- Negative numbers stand only where a `-` belongs to the number after it: as the first token if signed says so, or
-- after a keyword or a symbol other than `)`.
abbrev pub KeepsSigns : Bool → List Token → Type 0
KeepsSigns signed [] = Unit {0}
KeepsSigns signed (t ∷ ts) = (signed ≡ false → IsUnsigned t) × KeepsSigns (signs (piece_of t)) ts
