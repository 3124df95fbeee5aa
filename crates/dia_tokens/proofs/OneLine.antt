-- A line has one list of tokens at most, or one first fault at most.
use Rattle.std.proofs.Common.{◌≡◌, ℕ, true, false, List, map, Result, Ok, Err, IfOk, IfErr, ◌⊎◌, inl, inr, refl, sym, ap, ◌∙◌}
use Rattle.std.specs.Prelude.{MatchResult}
use Rattle.std.specs.List.{list_all}
use Rattle.dia_tokens.specs.declared.line.LineFail.{LineFail}
use Rattle.dia_tokens.specs.declared.line.LineFail.TheVariants.{BadByte, BadToken, NumberTooWide, NameTooLong, NoMemory}
use Rattle.dia_tokens.specs.declared.token.Token.{Token}
use Rattle.dia_tokens.specs.declared.token.Token.TheVariants as value
use Rattle.dia_tokens.specs.Line.{Spells, HasFault, a_bad_byte, a_bad_token, a_wide_number, a_long_name, Refuses}
use Rattle.dia_tokens.specs.Pieces.{Piece, name, number, keyword, symbol}
use Rattle.dia_tokens.specs.Values.{number_of, is_narrow, is_short, HasValue, of_keyword, of_name, of_number, of_symbol, HaveValues, none, another}
use Rattle.dia_tokens.proofs.LexLaws.{Lexes-one}

abbrev the_token : Piece → Token
the_token (keyword w) = value.Keyword w
the_token (name text) = value.Name text
the_token (number text) = value.Number (number_of text)
the_token (symbol s) = value.Symbol s

token-is : (p : Piece) (t : Token) → HasValue p t → t ≡ the_token p
token-is p t (of_keyword w) = refl
token-is p t (of_name text e) = refl
token-is p t (of_number text e) = refl
token-is p t (of_symbol s) = refl

tokens-are : (ps : List Piece) (ts : List Token) → HaveValues ps ts → ts ≡ map the_token ps
tokens-are ps ts none = refl
tokens-are ps ts (another p t qs us h d) = rw (token-is p t h, tokens-are qs us d) refl

pub narrow : (p : Piece) (t : Token) → HasValue p t → is_narrow p ≡ true
narrow p t (of_keyword w) = refl
narrow p t (of_name text e) = refl
narrow p t (of_number text e) = e
narrow p t (of_symbol s) = refl

pub short : (p : Piece) (t : Token) → HasValue p t → is_short p ≡ true
short p t (of_keyword w) = refl
short p t (of_name text e) = e
short p t (of_number text e) = refl
short p t (of_symbol s) = refl

pub all-narrow : (ps : List Piece) (ts : List Token) → HaveValues ps ts → list_all is_narrow ps ≡ true
all-narrow ps ts none = refl
all-narrow ps ts (another p t qs us h d) = rw (narrow p t h) (all-narrow qs us d)

all-short : (ps : List Piece) (ts : List Token) → HaveValues ps ts → list_all is_short ps ≡ true
all-short ps ts none = refl
all-short ps ts (another p t qs us h d) = rw (short p t h) (all-short qs us d)

pub one-list : (line : List ℕ) (a b : List Token) → Spells line a → Spells line b → a ≡ b
one-list line a b s t =
    let same : s.texts ≡ t.texts = Lexes-one true line s.texts t.texts s.lexes t.lexes in
    tokens-are s.texts a s.values ∙ ap (map the_token) same ∙ sym (tokens-are t.texts b t.values)

pub no-fault : (line : List ℕ) (ts : List Token) (f : LineFail) → Spells line ts → HasFault line f → ⊥
no-fault line ts f s (a_bad_byte l e) = let a = s.allowed in cc
no-fault line ts f s (a_bad_token l e n) = n s.texts s.lexes
no-fault line ts f s (a_wide_number l ps e d w) =
    let same : ps ≡ s.texts = Lexes-one true l ps s.texts d s.lexes in
    let no : true ≡ false = sym (all-narrow s.texts ts s.values) ∙ sym (ap (list_all is_narrow) same) ∙ w in cc
no-fault line ts f s (a_long_name l ps e d w g) =
    let same : ps ≡ s.texts = Lexes-one true l ps s.texts d s.lexes in
    let no : true ≡ false = sym (all-short s.texts ts s.values) ∙ sym (ap (list_all is_short) same) ∙ g in cc

pub one-fault : (line : List ℕ) (f g : LineFail) → HasFault line f → HasFault line g → f ≡ g
one-fault line f g (a_bad_byte l e) (a_bad_byte m e') = refl
one-fault line f g (a_bad_byte l e) (a_bad_token m e' n) = absurd cc
one-fault line f g (a_bad_byte l e) (a_wide_number m qs e' d' w') = absurd cc
one-fault line f g (a_bad_byte l e) (a_long_name m qs e' d' w' g') = absurd cc
one-fault line f g (a_bad_token l e n) (a_bad_byte m e') = absurd cc
one-fault line f g (a_bad_token l e n) (a_bad_token m e' n') = refl
one-fault line f g (a_bad_token l e n) (a_wide_number m qs e' d' w') = absurd (n qs d')
one-fault line f g (a_bad_token l e n) (a_long_name m qs e' d' w' g') = absurd (n qs d')
one-fault line f g (a_wide_number l ps e d w) (a_bad_byte m e') = absurd cc
one-fault line f g (a_wide_number l ps e d w) (a_bad_token m e' n) = absurd (n ps d)
one-fault line f g (a_wide_number l ps e d w) (a_wide_number m qs e' d' w') = refl
one-fault line f g (a_wide_number l ps e d w) (a_long_name m qs e' d' w' g') =
    let same : ps ≡ qs = Lexes-one true l ps qs d d' in
    absurd (let no : false ≡ true = sym w ∙ ap (list_all is_narrow) same ∙ w' in cc)
one-fault line f g (a_long_name l ps e d w h) (a_bad_byte m e') = absurd cc
one-fault line f g (a_long_name l ps e d w h) (a_bad_token m e' n) = absurd (n ps d)
one-fault line f g (a_long_name l ps e d w h) (a_wide_number m qs e' d' w') =
    let same : ps ≡ qs = Lexes-one true l ps qs d d' in
    absurd (let no : true ≡ false = sym w ∙ ap (list_all is_narrow) same ∙ w' in cc)
one-fault line f g (a_long_name l ps e d w h) (a_long_name m qs e' d' w' g') = refl

-- ---- what is read is all that may be read

refusal : (line : List ℕ) (e : LineFail) → Refuses line e → (e ≡ NoMemory) ⊎ HasFault line e
refusal line NoMemory r = inl refl
refusal line BadByte r = inr r
refusal line BadToken r = inr r
refusal line NumberTooWide r = inr r
refusal line NameTooLong r = inr r

pub only-read : {T : Type 0} (items : T → List Token) (r : Result T LineFail) (line : List ℕ) → IfOk r (λ v. Spells line (items v)) → IfErr r (λ e. Refuses line e)
    → (ts : List Token) → Spells line ts → MatchResult r (λ v. items v ≡ ts) (λ e. e ≡ NoMemory)
only-read items (Ok v) line found fault ts s = one-list line (items v) ts found s
only-read items (Err e) line found fault ts s = elim (refusal line e fault) [ inl is ↦ is | inr f ↦ absurd (no-fault line ts e s f) ]

pub only-refused : {T : Type 0} (items : T → List Token) (r : Result T LineFail) (line : List ℕ) → IfOk r (λ v. Spells line (items v)) → IfErr r (λ e. Refuses line e)
    → (f : LineFail) → HasFault line f → MatchResult r (λ _. ⊥) (λ e. (e ≡ NoMemory) ⊎ (e ≡ f))
only-refused items (Ok v) line found fault f h = no-fault line (items v) f found h
only-refused items (Err e) line found fault f h = elim (refusal line e fault) [ inl is ↦ inl is | inr g ↦ inr (one-fault line e f g h) ]
