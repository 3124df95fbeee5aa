-- What the texts of tokens are, and that they make the same tokens again.
use Rattle.std.proofs.Common.{◌≡◌, ℕ, pos, neg_ℤ, zero, suc, ◌+◌, ◌*◌, ◌^◌, ◌<◌, ◌≤◌, drop, Bool, true, false, cond, All, List, [], ◌∷◌, ◌++◌, length, Option, Some, None, IfSome, refl, sym, ap, subst, ◌∙◌, append_assoc, arith, inl, inr}
use Rattle.std.specs.Prelude.{◌==◌, nat_le, nat_lt}
use Rattle.std.specs.List.{AllByRecursion, list_all, count_by}
use Rattle.std.specs.Str.{bytes_eq}
use Rattle.std.proofs.lemmas.Bool.{cases_Bool, and_parts, and_from, eqb-true}
use Rattle.std.proofs.lemmas.Bool.Decides.{nat_tests}
use Rattle.std.proofs.lemmas.List.{append-nil, length-append}
use Rattle.std.proofs.lemmas.List.Elements.{All-from_recursion}
use Rattle.std.proofs.lemmas.List.Folds.{list_all-append, sum_by-zero}
use Rattle.std.proofs.lemmas.Slice.Eq.{bytes_eq-Decides}
use Rattle.dia_tokens.specs.declared.token.Symbol.{Symbol}
use Rattle.dia_tokens.specs.declared.token.Symbol.TheVariants.{Assign, Equal, Unequal, Less, AtMost, Greater, AtLeast, Plus, Minus, Star, Slash, Percent, Open, Close, Comma, Point}
use Rattle.dia_tokens.specs.declared.token.Token.{Token}
use Rattle.dia_tokens.specs.declared.token.Keyword.{Keyword}
use Rattle.dia_tokens.specs.declared.kind.Kind.{Kind}
use Rattle.dia_tokens.specs.declared.kind.Kind.TheVariants.{Blank, Hash, Letter, Digit, Dash, Bang, Pair, Plain, Other}
use Rattle.dia_tokens.specs.Kinds.{is_allowed, kind_of, symbol_kind_of, is_name, is_digit, is_equals}
use Rattle.dia_tokens.specs.Lexes.{signs, Stops, Lexes, ends, a_comment, a_blank, a_name, a_number, a_signed_number, a_minus, an_unequal, a_short, a_long, a_plain}
use Rattle.dia_tokens.specs.Line.{Spells}
use Rattle.dia_tokens.specs.Pieces.{Piece, name, number, symbol}
use Rattle.dia_tokens.specs.Reading.{nothing, found, token_at}
use Rattle.dia_tokens.specs.Spelling.{symbol_text, text_of, spaced, joined, IsSpelling}
use Rattle.dia_tokens.specs.Printable.{IsPrintableNumber, IsPrintableToken}
use Rattle.dia_tokens.specs.Shapes.{IsNameText, letters}
use Rattle.dia_tokens.specs.Values.{digits_value, is_negative, number_of, is_in_range, HasValue, of_keyword, of_name, of_number, of_symbol, HaveValues, none, another}
use Rattle.dia_tokens.specs.Keywords.{keyword_text, all_keywords, keyword_among, or_else, keyword_of}
use Rattle.dia_tokens.proofs.ByteLaws.{dash-is}
use Rattle.dia_tokens.proofs.LexLaws.{Inverts, Inverts-at, Lexes-one}
use Rattle.dia_tokens.proofs.ValueLaws.{name-from-text}

-- ---- the texts of keywords

among-is : (keywords : List Keyword) (text : List ℕ) → IfSome (keyword_among keywords text) (λ w. keyword_text w ≡ text)
among-is [] text = tt
among-is (w ∷ ws) text =
    elim (cases_Bool (bytes_eq (keyword_text w) text)) [
      | inl y ↦ rw y ((bytes_eq-Decides (keyword_text w) text).0 y)
      | inr n ↦ rw n (among-is ws text)
    ]

-- the text of a keyword or name is what was read
pub keyword-spelled : (text : List ℕ) → text_of (keyword_of text) ≡ text
unfolding keyword_of
keyword-spelled text = spelled (keyword_among all_keywords text) (among-is all_keywords text)
  where
    spelled : (o : Option Keyword) → IfSome o (λ w. keyword_text w ≡ text) → text_of (or_else o (name text)) ≡ text
    spelled (Some w) h = h
    spelled None h = refl

-- ---- the texts of symbols

abbrev Says : ℕ → Kind → Type 0
Says b (Pair short long) = (symbol_text short ≡ b ∷ []) × (symbol_text long ≡ b ∷ 61 ∷ [])
Says b (Plain x) = symbol_text x ≡ b ∷ []
Says b _ = Unit {0}

-- the symbols of the kind begin with b
record HasText (b : ℕ) (k : Kind) : Type 0 where
  says : Says b k

either : (b : ℕ) (c : Bool) (k l : Kind) → HasText b k → HasText b l → HasText b (cond c k l)
either b true k l h i = h
either b false k l h i = i

-- if b is n, or another symbol
if-symbol : (b n : ℕ) (k l : Kind) → Says n k → HasText b l → HasText b (cond (b == n) k l)
if-symbol b n k l h i =
    elim (cases_Bool (b == n)) [
      | inl y ↦ let e : n ≡ b = grind (arith, nat_tests) in rw y (record { says = subst (λ (m : ℕ). Says m k) e h })
      | inr n ↦ rw n i
    ]

-- if b is no symbol
no-symbol : {b : ℕ} {k : Kind} → Says b k → HasText b k
no-symbol h = record { says = h }

symbol-text : (b : ℕ) → HasText b (symbol_kind_of b)
unfolding symbol_kind_of
symbol-text b =
    if-symbol b 61 (Pair Assign Equal) _ (refl, refl) (if-symbol b 60 (Pair Less AtMost) _ (refl, refl) (if-symbol b 62 (Pair Greater AtLeast) _ (refl, refl)
    (if-symbol b 43 (Plain Plus) _ refl (if-symbol b 42 (Plain Star) _ refl (if-symbol b 47 (Plain Slash) _ refl (if-symbol b 37 (Plain Percent) _ refl
    (if-symbol b 40 (Plain Open) _ refl (if-symbol b 41 (Plain Close) _ refl (if-symbol b 44 (Plain Comma) _ refl (if-symbol b 46 (Plain Point) Other refl (no-symbol tt)))))))))))

kind-text : (b : ℕ) → HasText b (kind_of b)
unfolding kind_of
kind-text b =
    either b _ Blank _ (no-symbol tt) (either b _ Hash _ (no-symbol tt) (either b _ Letter _ (no-symbol tt) (either b _ Digit _ (no-symbol tt) (either b _ Dash _ (no-symbol tt) (either b _ Bang _ (no-symbol tt) (symbol-text b))))))

symbol-says : (b : ℕ) (k : Kind) → kind_of b ≡ k → Says b k
symbol-says b k e = subst (Says b) e (kind-text b).says

bang-is : (b : ℕ) → kind_of b ≡ Bang → b ≡ 33
unfolding kind_of symbol_kind_of
bang-is b e = grind (arith, nat_tests)

equals-is : (b : ℕ) → is_equals b ≡ true → b ≡ 61
equals-is b e = grind (arith, nat_tests)

minus-is : (dash : ℕ) → kind_of dash ≡ Dash → symbol_text Minus ≡ dash ∷ []
minus-is dash e = ap (λ (b : ℕ). b ∷ []) (sym (dash-is dash e))

two : (a b c d : ℕ) → a ≡ c → b ≡ d → a ∷ b ∷ [] ≡ c ∷ d ∷ []
two a b c d e f = rw (e, f) refl

unequal-is : (b c : ℕ) → kind_of b ≡ Bang → is_equals c ≡ true → symbol_text Unequal ≡ b ∷ c ∷ []
unequal-is b c e f = two _ _ b c (sym (bang-is b e)) (sym (equals-is c f))

long-is : (b c : ℕ) (short long : Symbol) → kind_of b ≡ Pair short long → is_equals c ≡ true → symbol_text long ≡ b ∷ c ∷ []
long-is b c short long e f = (symbol-says b (Pair short long) e).1 ∙ two b 61 b c refl (sym (equals-is c f))

-- ---- the tokens that are left

-- the texts of the tokens that are left, after a space unless none was before them
abbrev pub left : Bool → List Piece → List ℕ
left true ps = joined ps
left false [] = []
left false (p ∷ ps) = 32 ∷ joined (p ∷ ps)

joined-next : (p : Piece) (ps : List Piece) → joined (p ∷ ps) ≡ text_of p ++ left false ps
joined-next p [] = sym (append-nil (text_of p))
joined-next p (q ∷ ps) = refl

-- ---- the tokens again

space : kind_of 32 ≡ Blank
unfolding kind_of
space = refl

Stops-space : (p : ℕ → Bool) (ps : List Piece) → p 32 ≡ false → Stops p (left false ps)
Stops-space p [] e = tt
Stops-space p (q ∷ ps) e = e

space-is_name : is_name 32 ≡ false
unfolding kind_of
space-is_name = refl

space-is_digit : is_digit 32 ≡ false
unfolding kind_of
space-is_digit = refl

later : (s : Bool) (ps : List Piece) → Lexes s (joined ps) ps → Lexes s (left false ps) ps
later s [] d = d
later s (p ∷ ps) d = a_blank s 32 (joined (p ∷ ps)) (p ∷ ps) space d

first : (s : Bool) (p : Piece) (ps : List Piece) (text : List ℕ) → text_of p ≡ text → Lexes s (text ++ left false ps) (p ∷ ps) → Lexes s (joined (p ∷ ps)) (p ∷ ps)
first s p ps text e d = subst (λ (l : List ℕ). Lexes s l (p ∷ ps)) (sym (joined-next p ps ∙ ap (λ (t : List ℕ). t ++ left false ps) e)) d

pub relexed : (s : Bool) (line : List ℕ) (ps : List Piece) → Lexes s line ps → Lexes s (joined ps) ps
relexed s line ps (ends t) = ends t
relexed s line ps (a_comment t b bs e) = ends t
relexed s line ps (a_blank t b bs us e d) = relexed t bs us d
relexed s line ps (a_name t b text rest us e p q d) =
    first t (keyword_of (b ∷ text)) us (b ∷ text) (keyword-spelled (b ∷ text)) (a_name t b text (left false us) us e p (Stops-space is_name us space-is_name) (later _ us (relexed _ rest us d)))
relexed s line ps (a_number t b text rest us e p q d) =
    first t (number (b ∷ text)) us (b ∷ text) refl (a_number t b text (left false us) us e p (Stops-space is_name us space-is_name) (later false us (relexed false rest us d)))
relexed s line ps (a_signed_number dash b text rest us e f p q d) =
    first true (number (dash ∷ b ∷ text)) us (dash ∷ b ∷ text) refl
    (a_signed_number dash b text (left false us) us e f p (Stops-space is_name us space-is_name) (later false us (relexed false rest us d)))
relexed s line ps (a_minus t dash rest us e n d) =
    first t (symbol Minus) us (dash ∷ []) (minus-is dash e)
    (a_minus t dash (left false us) us e (λ _. Stops-space is_digit us space-is_digit) (later true us (relexed true rest us d)))
relexed s line ps (an_unequal t b c rest us e f d) =
    first t (symbol Unequal) us (b ∷ c ∷ []) (unequal-is b c e f) (an_unequal t b c (left false us) us e f (later true us (relexed true rest us d)))
relexed s line ps (a_short t b short long rest us e n d) =
    first t (symbol short) us (b ∷ []) (symbol-says b (Pair short long) e).0 (a_short t b short long (left false us) us e (Stops-space is_equals us refl) (later _ us (relexed _ rest us d)))
relexed s line ps (a_long t b c short long rest us e f d) =
    first t (symbol long) us (b ∷ c ∷ []) (long-is b c short long e f) (a_long t b c short long (left false us) us e f (later _ us (relexed _ rest us d)))
relexed s line ps (a_plain t b x rest us e d) =
    first t (symbol x) us (b ∷ []) (symbol-says b (Plain x) e) (a_plain t b x (left false us) us e (later _ us (relexed _ rest us d)))

pub one-spelling : (line a b : List ℕ) → IsSpelling line a → IsSpelling line b → a ≡ b
one-spelling line a b s t = s.2 ∙ ap joined (Lexes-one true line s.0 t.0 s.1 t.1) ∙ sym t.2

pub spelled-again : (line text : List ℕ) → IsSpelling line text → IsSpelling text text
spelled-again line text s = (s.0, subst (λ (l : List ℕ). Lexes true l s.0) (sym s.2) (relexed true line s.0 s.1), s.2)

-- ---- the room that a line's tokens take

first-fits : (p : Piece) (ps : List Piece) (text rest : List ℕ) → text_of p ≡ text → 0 < length text → length (left false ps) ≤ 2 * length rest → length (left false (p ∷ ps)) ≤ 2 * length (text ++ rest)
first-fits p ps text rest e h k =
    let whole : length (joined (p ∷ ps)) ≡ length text + length (left false ps) = ap length (joined-next p ps ∙ ap (λ (t : List ℕ). t ++ left false ps) e) ∙ length-append text (left false ps) in
    omega (arith, whole, length-append text rest)

left-fits : (s : Bool) (line : List ℕ) (ps : List Piece) → Lexes s line ps → length (left false ps) ≤ 2 * length line
left-fits s line ps (ends t) = omega arith
left-fits s line ps (a_comment t b bs e) = omega arith
left-fits s line ps (a_blank t b bs us e d) = omega (arith, left-fits t bs us d)
left-fits s line ps (a_name t b text rest us e p q d) = first-fits (keyword_of (b ∷ text)) us (b ∷ text) rest (keyword-spelled (b ∷ text)) (omega arith) (left-fits _ rest us d)
left-fits s line ps (a_number t b text rest us e p q d) = first-fits (number (b ∷ text)) us (b ∷ text) rest refl (omega arith) (left-fits false rest us d)
left-fits s line ps (a_signed_number dash b text rest us e f p q d) = first-fits (number (dash ∷ b ∷ text)) us (dash ∷ b ∷ text) rest refl (omega arith) (left-fits false rest us d)
left-fits s line ps (a_minus t dash rest us e n d) = first-fits (symbol Minus) us (dash ∷ []) rest (minus-is dash e) (omega arith) (left-fits true rest us d)
left-fits s line ps (an_unequal t b c rest us e f d) = first-fits (symbol Unequal) us (b ∷ c ∷ []) rest (unequal-is b c e f) (omega arith) (left-fits true rest us d)
left-fits s line ps (a_short t b short long rest us e n d) = first-fits (symbol short) us (b ∷ []) rest (symbol-says b (Pair short long) e).0 (omega arith) (left-fits _ rest us d)
left-fits s line ps (a_long t b c short long rest us e f d) = first-fits (symbol long) us (b ∷ c ∷ []) rest (long-is b c short long e f) (omega arith) (left-fits _ rest us d)
left-fits s line ps (a_plain t b x rest us e d) = first-fits (symbol x) us (b ∷ []) rest (symbol-says b (Plain x) e) (omega arith) (left-fits _ rest us d)

pub joined-fits : (line : List ℕ) (ps : List Piece) → Lexes true line ps → length (joined ps) ≤ 2 * length line
joined-fits line [] d = omega arith
joined-fits line (p ∷ ps) d = omega (arith, left-fits true line (p ∷ ps) d)

-- if there are tokens, one more byte fits
pub joined-shorter : (line : List ℕ) (p : Piece) (ps : List Piece) → Lexes true line (p ∷ ps) → length (joined (p ∷ ps)) + 1 ≤ 2 * length line
joined-shorter line p ps d = omega (arith, left-fits true line (p ∷ ps) d)

pub spelling-fits : (line text : List ℕ) → IsSpelling line text → length text ≤ 2 * length line
spelling-fits line text s = rw s.2 (joined-fits line s.0 s.1)

-- ---- the bytes of a line's tokens

left-all : (p : ℕ → Bool) → p 32 ≡ true → (ps : List Piece) → list_all p (joined ps) ≡ true → list_all p (left false ps) ≡ true
left-all p e [] h = refl
left-all p e (q ∷ ps) h = and_from _ _ e h

first-all : (p : ℕ → Bool) → p 32 ≡ true → (q : Piece) (ps : List Piece) (text rest : List ℕ) → text_of q ≡ text → list_all p (text ++ rest) ≡ true
    → (list_all p rest ≡ true → list_all p (joined ps) ≡ true) → list_all p (joined (q ∷ ps)) ≡ true
first-all p e q ps text rest same h others =
    let both = and_parts (list_all p text) (list_all p rest) (sym (list_all-append p text rest) ∙ h) in
    ap (list_all p) (joined-next q ps ∙ ap (λ (t : List ℕ). t ++ left false ps) same) ∙ list_all-append p text (left false ps) ∙ and_from _ _ both.0 (left-all p e ps (others both.1))

-- what holds of each byte of a line, and of a space, holds of each byte of its tokens' texts
pub joined-all : (p : ℕ → Bool) → p 32 ≡ true → (s : Bool) (line : List ℕ) (ps : List Piece) → Lexes s line ps → list_all p line ≡ true → list_all p (joined ps) ≡ true
joined-all p i s line ps (ends t) h = refl
joined-all p i s line ps (a_comment t b bs e) h = refl
joined-all p i s line ps (a_blank t b bs us e d) h = joined-all p i t bs us d (and_parts (p b) (list_all p bs) h).1
joined-all p i s line ps (a_name t b text rest us e m q d) h = first-all p i (keyword_of (b ∷ text)) us (b ∷ text) rest (keyword-spelled (b ∷ text)) h (joined-all p i _ rest us d)
joined-all p i s line ps (a_number t b text rest us e m q d) h = first-all p i (number (b ∷ text)) us (b ∷ text) rest refl h (joined-all p i false rest us d)
joined-all p i s line ps (a_signed_number dash b text rest us e f m q d) h = first-all p i (number (dash ∷ b ∷ text)) us (dash ∷ b ∷ text) rest refl h (joined-all p i false rest us d)
joined-all p i s line ps (a_minus t dash rest us e n d) h = first-all p i (symbol Minus) us (dash ∷ []) rest (minus-is dash e) h (joined-all p i true rest us d)
joined-all p i s line ps (an_unequal t b c rest us e f d) h = first-all p i (symbol Unequal) us (b ∷ c ∷ []) rest (unequal-is b c e f) h (joined-all p i true rest us d)
joined-all p i s line ps (a_short t b short long rest us e n d) h = first-all p i (symbol short) us (b ∷ []) rest (symbol-says b (Pair short long) e).0 h (joined-all p i _ rest us d)
joined-all p i s line ps (a_long t b c short long rest us e f d) h = first-all p i (symbol long) us (b ∷ c ∷ []) rest (long-is b c short long e f) h (joined-all p i _ rest us d)
joined-all p i s line ps (a_plain t b x rest us e d) h = first-all p i (symbol x) us (b ∷ []) rest (symbol-says b (Plain x) e) h (joined-all p i _ rest us d)

-- the spelling of a line's tokens spells the same tokens
pub spells-again : (line text : List ℕ) (ts : List Token) → Spells line ts → IsSpelling line text → Spells text ts
spells-again line text ts s t =
    let same : text ≡ joined s.texts = one-spelling line text (joined s.texts) t (s.texts, s.lexes, refl) in
    record {
      texts = s.texts;
      allowed = ap (list_all is_allowed) same ∙ joined-all is_allowed refl true line s.texts s.lexes s.allowed;
      lexes = subst (λ (l : List ℕ). Lexes true l s.texts) (sym same) (relexed true line s.texts s.lexes);
      values = s.values;
    }

not-feed : (b : ℕ) → is_allowed b ≡ true → (cond (b == 10) 1 0 == 0) ≡ true
not-feed b e = grind (arith, nat_tests)

not-feeds : (text : List ℕ) → list_all is_allowed text ≡ true → list_all (λ b. cond (b == 10) 1 0 == 0) text ≡ true
not-feeds [] h = refl
not-feeds (b ∷ bs) h = let both = and_parts (is_allowed b) (list_all is_allowed bs) h in and_from _ _ (not-feed b both.0) (not-feeds bs both.1)

-- the spelling of a line is one line
pub no-feed : (line text : List ℕ) (ts : List Token) → Spells line ts → IsSpelling line text → count_by (λ b. b == 10) text ≡ 0
no-feed line text ts s t = eqb-true _ 0 (sum_by-zero (λ b. cond (b == 10) 1 0) text ∙ not-feeds text (spells-again line text ts s t).allowed)

-- ---- the tokens of a line can be printed

abbrev IsFree : Piece → Type 0
IsFree (name text) = IsNameText text × (keyword_of text ≡ name text)
IsFree _ = Unit {0}

free-text : (text : List ℕ) → IsNameText text → IsFree (keyword_of text)
unfolding keyword_of
free-text text shape = free (keyword_among all_keywords text) refl
  where
    free : (o : Option Keyword) → keyword_among all_keywords text ≡ o → IsFree (or_else o (name text))
    free (Some w) e = tt
    free None e = (shape, ap (λ (o : Option Keyword). or_else o (name text)) e)

free-texts : (s : Bool) (line : List ℕ) (ps : List Piece) → Lexes s line ps → AllByRecursion IsFree ps
free-texts s line ps (ends t) = tt
free-texts s line ps (a_comment t b bs e) = tt
free-texts s line ps (a_blank t b bs us e d) = free-texts t bs us d
free-texts s line ps (a_name t b text rest us e p q d) = (free-text (b ∷ text) (letters b text e p), free-texts _ rest us d)
free-texts s line ps (a_number t b text rest us e p q d) = (tt, free-texts _ rest us d)
free-texts s line ps (a_signed_number dash b text rest us e f p q d) = (tt, free-texts _ rest us d)
free-texts s line ps (a_minus t dash rest us e n d) = (tt, free-texts _ rest us d)
free-texts s line ps (an_unequal t b c rest us e f d) = (tt, free-texts _ rest us d)
free-texts s line ps (a_short t b short long rest us e n d) = (tt, free-texts _ rest us d)
free-texts s line ps (a_long t b c short long rest us e f d) = (tt, free-texts _ rest us d)
free-texts s line ps (a_plain t b x rest us e d) = (tt, free-texts _ rest us d)

negated : (n : ℕ) → n ≤ 2 ^ 63 → IsPrintableNumber (neg_ℤ (pos n))
negated zero h = omega arith
negated (suc n) h = omega arith

printable-number : (text : List ℕ) → is_in_range text ≡ true → IsPrintableNumber (number_of text)
printable-number text h = either (is_negative text) refl h
  where
    either : (b : Bool) → is_negative text ≡ b → cond b (nat_le (digits_value (drop 1 text)) (2 ^ 63)) (nat_lt (digits_value text) (2 ^ 63)) ≡ true
        → IsPrintableNumber (cond b (neg_ℤ (pos (digits_value (drop 1 text)))) (pos (digits_value text)))
    either true e k = negated (digits_value (drop 1 text)) (grind (arith, nat_tests))
    either false e k = grind (arith, nat_tests)

printable-token : (p : Piece) (t : Token) → HasValue p t → IsFree p → IsPrintableToken t
printable-token p t (of_keyword w) f = tt
printable-token p t (of_name text e) f = (name-from-text text f.0 e, f.1)
printable-token p t (of_number text e) f = printable-number text e
printable-token p t (of_symbol s) f = tt

each-printable : (ps : List Piece) (ts : List Token) → HaveValues ps ts → AllByRecursion IsFree ps → AllByRecursion IsPrintableToken ts
each-printable ps ts none f = tt
each-printable ps ts (another p t qs us h d) f = (printable-token p t h f.0, each-printable qs us d f.1)

pub printable-tokens : (line : List ℕ) (ts : List Token) → Spells line ts → All IsPrintableToken ts
printable-tokens line ts s = All-from_recursion IsPrintableToken ts (each-printable s.texts ts s.values (free-texts true line s.texts s.lexes))

-- ---- the loop over a line

-- what was added and the tokens that are left make the line's tokens
pub record Leaves (line out : List ℕ) (first signed : Bool) (rest : List ℕ) : Type 0 where
  pub tokens : (ps : List Piece) → Lexes true line ps → (us : List Piece) × Lexes signed rest us × (joined ps ≡ out ++ left first us)

pub Leaves-starts : (line : List ℕ) → Leaves line [] true true line
Leaves-starts line = record { tokens = λ ps d. (ps, d, refl) }

left-next : (first : Bool) (p : Piece) (ps : List Piece) → left first (p ∷ ps) ≡ spaced first p ++ left false ps
left-next true p ps = joined-next p ps
left-next false p ps = ap (λ (text : List ℕ). 32 ∷ text) (joined-next p ps)

-- the token at the front is the next of those that are left
pub Leaves-found : {line out : List ℕ} {first signed : Bool} {rest : List ℕ} {p : Piece} {after : List ℕ} → Leaves line out first signed rest → found p after ≡ token_at signed rest
    → Leaves line (out ++ spaced first p) false (signs p) after
Leaves-found {line} {out} {first} {signed} {rest} {p} {after} l e = record {
  tokens = λ ps d.
      let t = l.tokens ps d in
      let i : Inverts t.0 (found p after) = subst (Inverts t.0) (sym e) (Inverts-at signed rest t.0 t.1) in
      (i.0, i.2, t.2 ∙ ap (λ (us : List Piece). out ++ left first us) i.1 ∙ ap (λ (text : List ℕ). out ++ text) (left-next first p i.0) ∙ sym (append_assoc out (spaced first p) (left false i.0)));
}

left-none : (first : Bool) → left first [] ≡ []
left-none true = refl
left-none false = refl

-- if no token is at the front
pub Leaves-ends : {line out : List ℕ} {first signed : Bool} {rest : List ℕ} → Leaves line out first signed rest → nothing ≡ token_at signed rest → (ps : List Piece) → Lexes true line ps → out ≡ joined ps
Leaves-ends {line} {out} {first} {signed} {rest} l e ps d =
    let t = l.tokens ps d in
    let i : Inverts t.0 nothing = subst (Inverts t.0) (sym e) (Inverts-at signed rest t.0 t.1) in
    sym (t.2 ∙ ap (λ (us : List Piece). out ++ left first us) i ∙ ap (λ (text : List ℕ). out ++ text) (left-none first) ∙ append-nil out)
