-- The line of tokens spells these tokens.
use Rattle.std.proofs.Common.{◌≡◌, ℕ, ℤ, pos, negsuc, suc, ◌<◌, Bool, true, false, cond, All, List, [], ◌∷◌, ◌++◌, length, map, refl, sym, subst, ◌∙◌, arith, append_assoc}
use Rattle.std.specs.Fmt.{decimal, signed_decimal}
use Rattle.std.specs.List.{AllByRecursion, list_all}
use Rattle.std.proofs.lemmas.Bool.{and_from}
use Rattle.std.proofs.lemmas.List.Elements.{recursion_from_All}
use Rattle.std.proofs.lemmas.List.Folds.{list_all-append}
use Rattle.dia_tokens.specs.declared.kind.Kind.TheVariants.{Blank, Dash}
use Rattle.dia_tokens.specs.declared.token.Symbol.{Symbol}
use Rattle.dia_tokens.specs.declared.token.Symbol.TheVariants as symbols
use Rattle.dia_tokens.specs.declared.token.Token.{Token}
use Rattle.dia_tokens.specs.declared.token.Token.TheVariants as token
use Rattle.dia_tokens.specs.Kinds.{kind_of, symbol_kind_of, is_allowed, is_name, is_digit, is_equals}
use Rattle.dia_tokens.specs.Lexes.{signs, Passes, Stops, Lexes, ends, a_blank, a_name, a_number, a_signed_number, a_minus, an_unequal, a_short, a_long, a_plain}
use Rattle.dia_tokens.specs.Line.{Spells}
use Rattle.dia_tokens.specs.Pieces.{Piece, keyword, name, number, symbol}
use Rattle.dia_tokens.specs.Printable.{IsPrintableNumber, IsPrintableToken}
use Rattle.dia_tokens.specs.Shapes.{IsNameText, letters}
use Rattle.dia_tokens.specs.Spelling.{symbol_text}
use Rattle.dia_tokens.specs.Values.{HaveValues, none, another}
use Rattle.dia_tokens.specs.Keywords.{begins_call, keyword_text, keyword_of}
use Rattle.dia_tokens.proofs.LexLaws.{digit_is}
use Rattle.dia_tokens.proofs.KeywordLaws.{keyword-again}
use Rattle.dia_tokens.specs.declared.edge.Edge.{Edge}
use Rattle.dia_tokens.specs.declared.edge.Edge.TheVariants.{Tight, Call, Loose}
use Rattle.dia_tokens.specs.TokenText.{piece_of, token_text, edge_of, is_apart, gap, text_after, line_text}
use Rattle.dia_tokens.specs.KeepsSigns.{IsUnsigned, KeepsSigns}
use Rattle.dia_tokens.proofs.TokenTexts.{keyword-shape, name-shape, digits, some-digit, token-value, token-allowed}

-- ---- where a token ends

-- no byte of a name, a number or a symbol goes on
record Breaks (rest : List ℕ) : Type 0 where
  names : Stops is_name rest
  numbers : Stops is_digit rest
  equals : Stops is_equals rest

-- what stands after a token of the edge
abbrev Ends : Edge → List ℕ → Type 0
Ends Tight rest = Unit {0}
Ends _ rest = Breaks rest

broken : (b : ℕ) (bs : List ℕ) → is_name b ≡ false → is_digit b ≡ false → is_equals b ≡ false → Breaks (b ∷ bs)
broken b bs e f g = record { names = e; numbers = f; equals = g }

space-breaks : (bs : List ℕ) → Breaks (32 ∷ bs)
unfolding kind_of symbol_kind_of
space-breaks bs = broken 32 bs refl refl refl

open-breaks : (bs : List ℕ) → Breaks (40 ∷ bs)
unfolding kind_of symbol_kind_of
open-breaks bs = broken 40 bs refl refl refl

close-breaks : (bs : List ℕ) → Breaks (41 ∷ bs)
unfolding kind_of symbol_kind_of
close-breaks bs = broken 41 bs refl refl refl

comma-breaks : (bs : List ℕ) → Breaks (44 ∷ bs)
unfolding kind_of symbol_kind_of
comma-breaks bs = broken 44 bs refl refl refl

point-breaks : (bs : List ℕ) → Breaks (46 ∷ bs)
unfolding kind_of symbol_kind_of
point-breaks bs = broken 46 bs refl refl refl

after-loose : (ts : List Token) → Breaks (text_after Loose ts)
after-loose [] = record { names = tt; numbers = tt; equals = tt }
after-loose (token.Symbol symbols.Close ∷ ts) = close-breaks _
after-loose (token.Symbol symbols.Comma ∷ ts) = comma-breaks _
after-loose (token.Symbol symbols.Point ∷ ts) = point-breaks _
after-loose (t ∷ ts) = space-breaks _

after-call : (ts : List Token) → Breaks (text_after Call ts)
after-call [] = record { names = tt; numbers = tt; equals = tt }
after-call (token.Symbol symbols.Open ∷ ts) = open-breaks _
after-call (token.Symbol symbols.Close ∷ ts) = close-breaks _
after-call (token.Symbol symbols.Comma ∷ ts) = comma-breaks _
after-call (token.Symbol symbols.Point ∷ ts) = point-breaks _
after-call (t ∷ ts) = space-breaks _

ends-there : (edge : Edge) (ts : List Token) → Ends edge (text_after edge ts)
ends-there Tight ts = tt
ends-there Call ts = after-call ts
ends-there Loose ts = after-loose ts

-- ---- one token

name-lexes : (s : Bool) (text rest : List ℕ) (p : Piece) (ps : List Piece) → IsNameText text → keyword_of text ≡ p → Stops is_name rest → Lexes (signs p) rest ps → Lexes s (text ++ rest) (p ∷ ps)
name-lexes s text rest p ps (letters b bs e q) is stops d =
    subst (λ (k : Piece). Lexes s (b ∷ (bs ++ rest)) (k ∷ ps)) is (a_name s b bs rest ps e q stops (subst (λ (k : Piece). Lexes (signs k) rest ps) (sym is) d))

digits-lex : (s : Bool) (text rest : List ℕ) (ps : List Piece) → Passes is_digit text → 0 < length text → Stops is_name rest → Lexes false rest ps → Lexes s (text ++ rest) (number text ∷ ps)
digits-lex s [] rest ps p h stops d = absurd (omega arith)
digits-lex s (b ∷ bs) rest ps p h stops d = a_number s b bs rest ps (digit_is b p.0) p.1 stops d

dash : kind_of 45 ≡ Dash
unfolding kind_of
dash = refl

signed-lex : (text rest : List ℕ) (ps : List Piece) → Passes is_digit text → 0 < length text → Stops is_name rest → Lexes false rest ps → Lexes true (45 ∷ (text ++ rest)) (number (45 ∷ text) ∷ ps)
signed-lex [] rest ps p h stops d = absurd (omega arith)
signed-lex (b ∷ bs) rest ps p h stops d = a_signed_number 45 b bs rest ps dash (digit_is b p.0) p.1 stops d

number-lexes : (s : Bool) (z : ℤ) (rest : List ℕ) (ps : List Piece) → IsPrintableNumber z → (s ≡ false → IsUnsigned (token.Number z)) → Stops is_name rest → Lexes false rest ps
    → Lexes s (signed_decimal z ++ rest) (number (signed_decimal z) ∷ ps)
number-lexes s (pos n) rest ps h u stops d = digits-lex s (decimal n) rest ps (digits n (omega arith)) (some-digit n (omega arith)) stops d
number-lexes true (negsuc n) rest ps h u stops d = signed-lex (decimal (suc n)) rest ps (digits (suc n) (omega arith)) (some-digit (suc n) (omega arith)) stops d
number-lexes false (negsuc n) rest ps h u stops d = absurd (u refl)

symbol-lexes : (s : Bool) (x : Symbol) (rest : List ℕ) (ps : List Piece) → Ends (edge_of (token.Symbol x)) rest → Lexes (signs (symbol x)) rest ps → Lexes s (symbol_text x ++ rest) (symbol x ∷ ps)
unfolding kind_of symbol_kind_of
symbol-lexes s symbols.Assign rest ps b d = a_short s 61 symbols.Assign symbols.Equal rest ps refl b.equals d
symbol-lexes s symbols.Equal rest ps b d = a_long s 61 61 symbols.Assign symbols.Equal rest ps refl refl d
symbol-lexes s symbols.Unequal rest ps b d = an_unequal s 33 61 rest ps refl refl d
symbol-lexes s symbols.Less rest ps b d = a_short s 60 symbols.Less symbols.AtMost rest ps refl b.equals d
symbol-lexes s symbols.AtMost rest ps b d = a_long s 60 61 symbols.Less symbols.AtMost rest ps refl refl d
symbol-lexes s symbols.Greater rest ps b d = a_short s 62 symbols.Greater symbols.AtLeast rest ps refl b.equals d
symbol-lexes s symbols.AtLeast rest ps b d = a_long s 62 61 symbols.Greater symbols.AtLeast rest ps refl refl d
symbol-lexes s symbols.Plus rest ps b d = a_plain s 43 symbols.Plus rest ps refl d
symbol-lexes s symbols.Minus rest ps b d = a_minus s 45 rest ps refl (λ _. b.numbers) d
symbol-lexes s symbols.Star rest ps b d = a_plain s 42 symbols.Star rest ps refl d
symbol-lexes s symbols.Slash rest ps b d = a_plain s 47 symbols.Slash rest ps refl d
symbol-lexes s symbols.Percent rest ps b d = a_plain s 37 symbols.Percent rest ps refl d
symbol-lexes s symbols.Open rest ps b d = a_plain s 40 symbols.Open rest ps refl d
symbol-lexes s symbols.Close rest ps b d = a_plain s 41 symbols.Close rest ps refl d
symbol-lexes s symbols.Comma rest ps b d = a_plain s 44 symbols.Comma rest ps refl d
symbol-lexes s symbols.Point rest ps b d = a_plain s 46 symbols.Point rest ps refl d

-- what stands after a keyword, whether it begins a call or not
keyword-breaks : (calls : Bool) (rest : List ℕ) → Ends (cond calls Call Loose) rest → Breaks rest
keyword-breaks true rest b = b
keyword-breaks false rest b = b

token-lexes : (s : Bool) (t : Token) (rest : List ℕ) (ps : List Piece) → IsPrintableToken t → (s ≡ false → IsUnsigned t) → Ends (edge_of t) rest → Lexes (signs (piece_of t)) rest ps
    → Lexes s (token_text t ++ rest) (piece_of t ∷ ps)
token-lexes s (token.Keyword w) rest ps h u b d = name-lexes s (keyword_text w) rest (keyword w) ps (keyword-shape w) (keyword-again w) (keyword-breaks (begins_call w) rest b).names d
token-lexes s (token.Name n) rest ps h u b d = name-lexes s n rest (name n) ps (name-shape n h.0) h.1 b.names d
token-lexes s (token.Number z) rest ps h u b d = number-lexes s z rest ps h u b.names d
token-lexes s (token.Symbol x) rest ps h u b d = symbol-lexes s x rest ps b d

-- ---- a line

space : kind_of 32 ≡ Blank
unfolding kind_of
space = refl

spaced : (s apart : Bool) (text : List ℕ) (ps : List Piece) → Lexes s text ps → Lexes s (cond apart (32 ∷ []) [] ++ text) ps
spaced s true text ps d = a_blank s 32 text ps space d
spaced s false text ps d = d

line-lexes : (s : Bool) (edge : Edge) (ts : List Token) → AllByRecursion IsPrintableToken ts → KeepsSigns s ts → Lexes s (text_after edge ts) (map piece_of ts)
line-lexes s edge [] h k = ends s
line-lexes s edge (t ∷ ts) h k =
    let rest = text_after (edge_of t) ts in
    let after = line-lexes (signs (piece_of t)) (edge_of t) ts h.1 k.1 in
    let whole = spaced s (is_apart edge t) (token_text t ++ rest) (map piece_of (t ∷ ts)) (token-lexes s t rest (map piece_of ts) h.0 k.0 (ends-there (edge_of t) ts) after) in
    subst (λ (l : List ℕ). Lexes s l (map piece_of (t ∷ ts))) (sym (append_assoc (gap edge t) (token_text t) rest)) whole

line-values : (ts : List Token) → AllByRecursion IsPrintableToken ts → HaveValues (map piece_of ts) ts
line-values [] h = none
line-values (t ∷ ts) h = another (piece_of t) t (map piece_of ts) ts (token-value t h.0) (line-values ts h.1)

gap-allowed : (apart : Bool) → list_all is_allowed (cond apart (32 ∷ []) []) ≡ true
gap-allowed true = refl
gap-allowed false = refl

both-allowed : (xs ys : List ℕ) → list_all is_allowed xs ≡ true → list_all is_allowed ys ≡ true → list_all is_allowed (xs ++ ys) ≡ true
both-allowed xs ys e f = list_all-append is_allowed xs ys ∙ and_from _ _ e f

line-allowed : (edge : Edge) (ts : List Token) → AllByRecursion IsPrintableToken ts → list_all is_allowed (text_after edge ts) ≡ true
line-allowed edge [] h = refl
line-allowed edge (t ∷ ts) h = both-allowed (gap edge t ++ token_text t) (text_after (edge_of t) ts) (both-allowed (gap edge t) (token_text t) (gap-allowed (is_apart edge t)) (token-allowed t h.0)) (line-allowed (edge_of t) ts h.1)

pub line-spells : (ts : List Token) → All IsPrintableToken ts → KeepsSigns true ts → Spells (line_text ts) ts
line-spells ts h k =
    let each = recursion_from_All IsPrintableToken ts h in
    record { texts = map piece_of ts; allowed = line-allowed Tight ts each; lexes = line-lexes true Tight ts each k; values = line-values ts each }

-- the same after two spaces
pub indented-spells : (ts : List Token) → All IsPrintableToken ts → KeepsSigns true ts → Spells (32 ∷ 32 ∷ line_text ts) ts
indented-spells ts h k =
    let s = line-spells ts h k in
    record { texts = s.texts; allowed = s.allowed; lexes = a_blank true 32 (32 ∷ line_text ts) s.texts space (a_blank true 32 (line_text ts) s.texts space s.lexes); values = s.values }
