-- Which texts the bytes of a line make.
use Rattle.std.specs.Prelude.{◌≡◌, ℕ, Bool, true, false, List, [], ◌∷◌, ◌++◌}
use Rattle.dia_tokens.specs.declared.token.Symbol.{Symbol}
use Rattle.dia_tokens.specs.declared.token.Symbol.TheVariants.{Unequal, Minus, Close}
use Rattle.dia_tokens.specs.declared.kind.Kind.TheVariants.{Blank, Hash, Letter, Digit, Dash, Bang, Pair, Plain}
use Rattle.dia_tokens.specs.Kinds.{kind_of, is_name, is_digit, is_equals}
use Rattle.dia_tokens.specs.Pieces.{Piece, name, number, symbol}
use Rattle.dia_tokens.specs.Keywords.{keyword_of}

-- whether a `-` before a digit belongs to the number, if this is the token before it on the line
abbrev pub signs : Piece → Bool
signs (name t) = false
signs (number t) = false
signs (symbol Close) = false
signs _ = true

-- each byte passes
abbrev pub Passes : (ℕ → Bool) → List ℕ → Type 0
Passes p [] = Unit {0}
Passes p (b ∷ bs) = (p b ≡ true) × Passes p bs

-- the first byte, if there is one, doesn't pass
abbrev pub Stops : (ℕ → Bool) → List ℕ → Type 0
Stops p [] = Unit {0}
Stops p (b ∷ bs) = p b ≡ false

-- The bytes are the tokens, the longest first, where signed says whether a `-` may begin a number.
pub data Lexes : Bool → List ℕ → List Piece → Type 0 where
  ends : (signed : Bool) → Lexes signed [] []
  a_comment : (signed : Bool) (b : ℕ) (bs : List ℕ) → kind_of b ≡ Hash → Lexes signed (b ∷ bs) []
  a_blank : (signed : Bool) (b : ℕ) (bs : List ℕ) (ps : List Piece) → kind_of b ≡ Blank → Lexes signed bs ps → Lexes signed (b ∷ bs) ps
  a_name : (signed : Bool) (b : ℕ) (text rest : List ℕ) (ps : List Piece) → kind_of b ≡ Letter → Passes is_name text → Stops is_name rest
      → Lexes (signs (keyword_of (b ∷ text))) rest ps → Lexes signed (b ∷ (text ++ rest)) (keyword_of (b ∷ text) ∷ ps)
  a_number : (signed : Bool) (b : ℕ) (text rest : List ℕ) (ps : List Piece) → kind_of b ≡ Digit → Passes is_digit text → Stops is_name rest
      → Lexes false rest ps → Lexes signed (b ∷ (text ++ rest)) (number (b ∷ text) ∷ ps)
  a_signed_number : (dash b : ℕ) (text rest : List ℕ) (ps : List Piece) → kind_of dash ≡ Dash → kind_of b ≡ Digit → Passes is_digit text → Stops is_name rest
      → Lexes false rest ps → Lexes true (dash ∷ b ∷ (text ++ rest)) (number (dash ∷ b ∷ text) ∷ ps)
  a_minus : (signed : Bool) (dash : ℕ) (rest : List ℕ) (ps : List Piece) → kind_of dash ≡ Dash → (signed ≡ true → Stops is_digit rest)
      → Lexes true rest ps → Lexes signed (dash ∷ rest) (symbol Minus ∷ ps)
  an_unequal : (signed : Bool) (b c : ℕ) (rest : List ℕ) (ps : List Piece) → kind_of b ≡ Bang → is_equals c ≡ true
      → Lexes true rest ps → Lexes signed (b ∷ c ∷ rest) (symbol Unequal ∷ ps)
  a_short : (signed : Bool) (b : ℕ) (short long : Symbol) (rest : List ℕ) (ps : List Piece) → kind_of b ≡ Pair short long → Stops is_equals rest
      → Lexes (signs (symbol short)) rest ps → Lexes signed (b ∷ rest) (symbol short ∷ ps)
  a_long : (signed : Bool) (b c : ℕ) (short long : Symbol) (rest : List ℕ) (ps : List Piece) → kind_of b ≡ Pair short long → is_equals c ≡ true
      → Lexes (signs (symbol long)) rest ps → Lexes signed (b ∷ c ∷ rest) (symbol long ∷ ps)
  a_plain : (signed : Bool) (b : ℕ) (x : Symbol) (rest : List ℕ) (ps : List Piece) → kind_of b ≡ Plain x
      → Lexes (signs (symbol x)) rest ps → Lexes signed (b ∷ rest) (symbol x ∷ ps)
