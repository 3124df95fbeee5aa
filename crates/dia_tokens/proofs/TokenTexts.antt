-- The texts of tokens: their shapes, their values and their bytes.
use Rattle.std.proofs.Common.{◌≡◌, ℕ, ℤ, pos, negsuc, suc, ◌^◌, ◌<◌, ◌≤◌, Bool, true, false, All, List, [], ◌∷◌, length, refl, ap, subst, arith}
use Rattle.std.specs.Prelude.{IsTrue, not, nat_le, ◌&&◌}
use Rattle.std.specs.Char.{is_ascii_digit}
use Rattle.std.specs.Fmt.{decimal, signed_decimal}
use Rattle.std.specs.List.{list_all}
use Rattle.std.proofs.lemmas.Bool.{and_parts, and_from}
use Rattle.std.proofs.lemmas.Bool.Decides.{nat_tests}
use Rattle.std.proofs.lemmas.Fmt.{decimal_nonempty, digits_decimal, digits_value-decimal}
use Rattle.dbp_plan.specs.Name.{IsName, is_name_byte}
use Rattle.dia_tokens.specs.declared.kind.Kind.TheVariants.{Letter}
use Rattle.dia_tokens.specs.declared.token.Symbol.{Symbol}
use Rattle.dia_tokens.specs.declared.token.Symbol.TheVariants as symbols
use Rattle.dia_tokens.specs.declared.token.Token.{Token}
use Rattle.dia_tokens.specs.declared.token.Token.TheVariants as token
use Rattle.dia_tokens.specs.declared.token.Keyword.{Keyword}
use Rattle.dia_tokens.specs.Kinds.{kind_of, symbol_kind_of, is_allowed, is_name, is_name_kind, is_digit}
use Rattle.dia_tokens.specs.Lexes.{Passes}
use Rattle.dia_tokens.specs.Printable.{IsPrintableNumber, IsPrintableToken}
use Rattle.dia_tokens.specs.Shapes.{IsNameText, letters}
use Rattle.dia_tokens.specs.Spelling.{symbol_text}
use Rattle.dia_tokens.specs.Values.{digits_value, is_negative, number_of, is_in_range, HasValue, of_keyword, of_name, of_number, of_symbol}
use Rattle.dia_tokens.specs.Keywords.{keyword_text}
use Rattle.dia_tokens.proofs.ByteLaws.{digit-bounds}
use Rattle.dia_tokens.proofs.ValueLaws.{own, name-fits}
use Rattle.dia_tokens.proofs.KeywordLaws.{each}
use Rattle.dia_tokens.specs.TokenText.{piece_of, token_text}

-- ---- names

-- a letter, with letters and digits after it
abbrev is_name_text : List ℕ → Bool
is_name_text [] = false
is_name_text (b ∷ bs) = nat_le 97 b && nat_le b 122 && list_all is_name bs

letter : (b : ℕ) → (nat_le 97 b && nat_le b 122) ≡ true → kind_of b ≡ Letter
unfolding kind_of symbol_kind_of
letter b e = grind (arith, nat_tests)

passes : (p : ℕ → Bool) (bs : List ℕ) → list_all p bs ≡ true → Passes p bs
passes p [] e = tt
passes p (b ∷ bs) e = let both = and_parts (p b) (list_all p bs) e in (both.0, passes p bs both.1)

shape : (text : List ℕ) → is_name_text text ≡ true → IsNameText text
shape [] e = absurd cc
shape (b ∷ bs) e = let both = and_parts (nat_le 97 b && nat_le b 122) (list_all is_name bs) e in letters b bs (letter b both.0) (passes is_name bs both.1)

pub keyword-shape : (w : Keyword) → IsNameText (keyword_text w)
unfolding kind_of symbol_kind_of
keyword-shape w = shape (keyword_text w) (each (λ w. is_name_text (keyword_text w)) refl w)

name-at : (b : ℕ) → IsTrue (is_name_byte b) → is_name b ≡ true
unfolding kind_of symbol_kind_of
name-at b h = grind (arith, nat_tests)

letter-at : (b : ℕ) → IsTrue (is_name_byte b) → IsTrue (not (is_ascii_digit b)) → kind_of b ≡ Letter
unfolding kind_of symbol_kind_of
letter-at b h n = grind (arith, nat_tests)

each-name : (bs : List ℕ) → All (λ b. IsTrue (is_name_byte b)) bs → Passes is_name bs
each-name [] h = tt
each-name (b ∷ bs) h = (name-at b (h 0 b (omega arith)), each-name bs (λ k d l. h (suc k) d (omega arith)))

pub name-shape : (text : List ℕ) → IsName text → IsNameText text
name-shape [] n = absurd n.begins
name-shape (b ∷ bs) n = letters b bs (letter-at b (n.each 0 b (omega arith)) n.begins) (each-name bs (λ k d l. n.each (suc k) d (omega arith)))

-- ---- numbers

pub digits : (n : ℕ) → n ≤ 2 ^ 63 → Passes is_digit (decimal n)
digits n h = digits_decimal own n (omega arith)

pub value : (n : ℕ) → n ≤ 2 ^ 63 → digits_value (decimal n) ≡ n
value n h = digits_value-decimal own n (omega arith)

pub some-digit : (n : ℕ) → n ≤ 2 ^ 63 → 0 < length (decimal n)
some-digit n h = decimal_nonempty n (omega arith)

unsigned : (text : List ℕ) → Passes is_digit text → 0 < length text → is_negative text ≡ false
unsigned [] p h = absurd (omega arith)
unsigned (b ∷ bs) p h = let k = digit-bounds b p.0 in grind (arith, nat_tests)

number-is : (z : ℤ) → IsPrintableNumber z → (is_in_range (signed_decimal z) ≡ true) × (number_of (signed_decimal z) ≡ z)
number-is (pos n) h =
    let plain = unsigned (decimal n) (digits n (omega arith)) (some-digit n (omega arith)) in
    let is = value n (omega arith) in
    (rw (plain, is) (grind (arith, nat_tests)), rw (plain, is) refl)
number-is (negsuc n) h = let is = value (suc n) (omega arith) in (rw is (grind (arith, nat_tests)), rw is refl)

-- the token is the value of its text
pub token-value : (t : Token) → IsPrintableToken t → HasValue (piece_of t) t
token-value (token.Keyword w) h = of_keyword w
token-value (token.Name n) h = of_name n (name-fits n h.0)
token-value (token.Number z) h = let is = number-is z h in subst (λ v. HasValue (piece_of (token.Number z)) (token.Number v)) is.1 (of_number (signed_decimal z) is.0)
token-value (token.Symbol s) h = of_symbol s

-- ---- bytes

name-allowed : (b : ℕ) → is_name b ≡ true → is_allowed b ≡ true
unfolding kind_of symbol_kind_of
name-allowed b e = grind (arith, nat_tests)

digit-allowed : (b : ℕ) → is_digit b ≡ true → is_allowed b ≡ true
digit-allowed b e = let k = digit-bounds b e in grind (arith, nat_tests)

all-allowed : (p : ℕ → Bool) → ((b : ℕ) → p b ≡ true → is_allowed b ≡ true) → (bs : List ℕ) → Passes p bs → list_all is_allowed bs ≡ true
all-allowed p f [] h = refl
all-allowed p f (b ∷ bs) h = and_from _ _ (f b h.0) (all-allowed p f bs h.1)

shape-allowed : (text : List ℕ) → IsNameText text → list_all is_allowed text ≡ true
shape-allowed text (letters b bs e p) = all-allowed is_name name-allowed (b ∷ bs) (ap is_name_kind e, p)

number-allowed : (z : ℤ) → IsPrintableNumber z → list_all is_allowed (signed_decimal z) ≡ true
number-allowed (pos n) h = all-allowed is_digit digit-allowed (decimal n) (digits n (omega arith))
number-allowed (negsuc n) h = and_from _ _ refl (all-allowed is_digit digit-allowed (decimal (suc n)) (digits (suc n) (omega arith)))

symbol-allowed : (s : Symbol) → list_all is_allowed (symbol_text s) ≡ true
symbol-allowed symbols.Assign = refl
symbol-allowed _ = refl

-- the bytes of a token may stand on a line
pub token-allowed : (t : Token) → IsPrintableToken t → list_all is_allowed (token_text t) ≡ true
token-allowed (token.Keyword w) h = shape-allowed (keyword_text w) (keyword-shape w)
token-allowed (token.Name n) h = shape-allowed n (name-shape n h.0)
token-allowed (token.Number z) h = number-allowed z h
token-allowed (token.Symbol s) h = symbol-allowed s
