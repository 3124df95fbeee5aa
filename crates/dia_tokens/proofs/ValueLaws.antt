-- Texts of names and numbers, and their values.
use Rattle.std.proofs.Common.{◌≡◌, ℕ, ℤ, pos, neg_ℤ, zero, suc, ◌+◌, ◌^◌, ◌<◌, ◌≤◌, Bool, true, false, cond, All, List, [], ◌∷◌, ◌++◌, length, take, drop, Option, Some, None, IfSome, IfNone, Result, Ok, Err, refl, sym, ap, subst, arith, rules, inl, inr}
use Rattle.std.specs.Prelude.{IsTrue, nat_le, nat_lt}
use Rattle.std.specs.Int.{w64}
use Rattle.std.specs.List.{prefix_len}
use Rattle.std.specs.Result.{result_ok}
use Rattle.std.specs.Result.{OkIff}
use Rattle.std.specs.Str.{IsAscii}
use Rattle.std.specs.Str.Parse.{ParsesSigned}
use Rattle.std.proofs.lemmas.Bool.{cases_Bool}
use Rattle.std.proofs.lemmas.Bool.Decides.{nat_tests}
use Rattle.std.proofs.lemmas.Str.Parse.{IsDigitsTest, IsNumeralModel, numerals_by_fold, parse_signed_digits, parse_signed_minus}
use Rattle.dbp_plan.specs.declared.limits.TheConstants.{MAX_NAME}
use Rattle.dbp_plan.specs.Name.{IsName, is_name_byte}
use Rattle.dia_tokens.specs.declared.token.Symbol.TheVariants.{Unequal, Minus}
use Rattle.dia_tokens.specs.declared.token.Token.{Token}
use Rattle.dia_tokens.specs.declared.token.Keyword.{Keyword}
use Rattle.dia_tokens.specs.declared.kind.Kind.{Kind}
use Rattle.dia_tokens.specs.declared.kind.Kind.TheVariants.{Letter, Digit, Dash, Bang, Pair, Plain}
use Rattle.dia_tokens.specs.Kinds.{kind_of, is_name, is_digit, is_blank, is_equals, is_name_kind, is_digit_kind}
use Rattle.dia_tokens.specs.Lexes.{Passes}
use Rattle.dia_tokens.specs.Pieces.{Piece, name, number, symbol}
use Rattle.dia_tokens.specs.Reading.{Front, bad, found, begins, number_in, front_of, token_in, token_at}
use Rattle.dia_tokens.specs.Shapes.{IsNameText, letters, IsNumberText, plain, negative, IsShaped}
use Rattle.dia_tokens.specs.Values.{digits_after, digits_value, is_negative, number_of, is_in_range, HasValue, HaveValues, none, another}
use Rattle.dia_tokens.specs.Keywords.{or_else, all_keywords, keyword_among, keyword_of}
use Rattle.dia_tokens.proofs.LexLaws.{run_yes, run_passes, digit_is}
use Rattle.dia_tokens.proofs.ByteLaws.{digit-bounds, digit-at, dash-is, letter-begins, name-byte}

-- ---- names

passes-each : (bs : List ℕ) → Passes is_name bs → All (λ b. IsTrue (is_name_byte b)) bs
passes-each [] p k d h = absurd (omega arith)
passes-each (b ∷ bs) p zero d h = name-byte b p.0
passes-each (b ∷ bs) p (suc k) d h = passes-each bs p.1 k d (omega arith)

pub name-from-text : (text : List ℕ) → IsNameText text → nat_le (length text) MAX_NAME ≡ true → IsName text
name-from-text text (letters b bs e p) h = record { begins = letter-begins b e; each = passes-each (b ∷ bs) (ap is_name_kind e, p); fits = grind (arith, nat_tests) }

pub name-too-long : (text : List ℕ) → IsNameText text → (IsName text → ⊥) → nat_le (length text) MAX_NAME ≡ false
name-too-long text s n = elim (cases_Bool (nat_le (length text) MAX_NAME)) [ inl y ↦ absurd (n (name-from-text text s y)) | inr e ↦ e ]

pub name-fits : (text : List ℕ) → IsName text → nat_le (length text) MAX_NAME ≡ true
name-fits text n = let f = n.fits in grind (arith, nat_tests)

-- ---- numbers

tells : IsDigitsTest (Passes is_digit)
tells = record { empty = tt; parts = λ c cs p. (digit-bounds c p.0, p.1); more = λ c cs k p. (digit-at c k, p) }

pub own : IsNumeralModel (Passes is_digit) digits_value
own = numerals_by_fold (Passes is_digit) tells digits_after (search rules)

digits-ascii : (bs : List ℕ) → Passes is_digit bs → IsAscii bs
digits-ascii [] p i = omega arith
digits-ascii (b ∷ bs) p zero = omega (arith, digit-bounds b p.0)
digits-ascii (b ∷ bs) p (suc i) = digits-ascii bs p.1 i

pub number-ascii : (text : List ℕ) → IsNumberText text → IsAscii text
number-ascii text (plain b bs e p) i = digits-ascii (b ∷ bs) (ap is_digit_kind e, p) i
number-ascii text (negative dash b bs f e p) zero = omega (arith, dash-is dash f)
number-ascii text (negative dash b bs f e p) (suc i) = digits-ascii (b ∷ bs) (ap is_digit_kind e, p) i

converted : {E : Type 0} (r : Result ℤ E) (P Q : Type 0) (v : ℤ) → (P → Q) → (Q → P) → OkIff r P v → OkIff r Q v
converted (Ok x) P Q v f g h = (f h.0, h.1)
converted (Err e) P Q v f g h = λ q. h (g q)

digits-negative : (b : ℕ) (bs : List ℕ) → is_digit b ≡ true → is_negative (b ∷ bs) ≡ false
digits-negative b bs e = let k = digit-bounds b e in grind (arith, nat_tests)

number-parsed : {E : Type 0} (text : List ℕ) (r : Result ℤ E) → IsNumberText text → ParsesSigned w64 10 text r → OkIff r (is_in_range text ≡ true) (number_of text)
number-parsed text r (plain b bs e p) h =
    let d : is_digit b ≡ true = ap is_digit_kind e in
    let m : is_negative (b ∷ bs) ≡ false = digits-negative b bs d in
    let parsed = parse_signed_digits own w64 (b ∷ bs) r h (d, p) in
    let to : (nat_lt (digits_value (b ∷ bs)) (2 ^ 63) ≡ true) → (0 < length (b ∷ bs)) × (digits_value (b ∷ bs) < 2 ^ 63) = λ q. (omega arith, grind (arith, nat_tests)) in
    let from : (0 < length (b ∷ bs)) × (digits_value (b ∷ bs) < 2 ^ 63) → (nat_lt (digits_value (b ∷ bs)) (2 ^ 63) ≡ true) = λ q. (let l = q.1 in grind (arith, nat_tests)) in
    rw m (converted r _ _ (pos (digits_value (b ∷ bs))) from to parsed)
number-parsed text r (negative dash b bs f e p) h =
    let d : is_digit b ≡ true = ap is_digit_kind e in
    let m : is_negative (dash ∷ b ∷ bs) ≡ true = let is = dash-is dash f in grind (arith, nat_tests) in
    let parsed = parse_signed_minus own w64 (dash ∷ b ∷ bs) r h (dash-is dash f) in
    let to : (nat_le (digits_value (b ∷ bs)) (2 ^ 63) ≡ true) → Passes is_digit (b ∷ bs) × (0 < length (b ∷ bs)) × (digits_value (b ∷ bs) ≤ 2 ^ 63) = λ q. ((d, p), omega arith, grind (arith, nat_tests)) in
    let from : Passes is_digit (b ∷ bs) × (0 < length (b ∷ bs)) × (digits_value (b ∷ bs) ≤ 2 ^ 63) → (nat_le (digits_value (b ∷ bs)) (2 ^ 63) ≡ true) = λ q. (let l = q.2 in grind (arith, nat_tests)) in
    rw m (converted r _ _ (neg_ℤ (pos (digits_value (b ∷ bs)))) from to parsed)

abbrev pub IsNumberOf : List ℕ → Option ℤ → Type 0
IsNumberOf text (Some n) = (n ≡ number_of text) × (is_in_range text ≡ true)
IsNumberOf text None = is_in_range text ≡ false

pub number-read : {E : Type 0} (text read : List ℕ) (r : Result ℤ E) → read ≡ text → IsNumberText text → ParsesSigned w64 10 read r → IsNumberOf text (result_ok r)
number-read text read r e s h = outcome r (number-parsed text r s (subst (λ t. ParsesSigned w64 10 t r) e h))
  where
    outcome : {E : Type 0} (r : Result ℤ E) → OkIff r (is_in_range text ≡ true) (number_of text) → IsNumberOf text (result_ok r)
    outcome (Ok x) h = (h.1, h.0)
    outcome (Err x) h = elim (cases_Bool (is_in_range text)) [ inl y ↦ absurd (h y) | inr n ↦ n ]

pub number-some : (text : List ℕ) (o : Option ℤ) → IsNumberOf text o → IfSome o (λ n. (n ≡ number_of text) × (is_in_range text ≡ true))
number-some text (Some n) h = h
number-some text None h = tt

pub number-none : (text : List ℕ) (o : Option ℤ) → IsNumberOf text o → IfNone o (is_in_range text ≡ false)
number-none text (Some n) h = tt
number-none text None h = h

-- ---- the shapes of a line's texts

or-shaped : (o : Option Keyword) (p : Piece) → IsShaped p → IsShaped (or_else o p)
or-shaped (Some w) p h = tt
or-shaped None p h = h

keyword-shaped : (text : List ℕ) → IsNameText text → IsShaped (keyword_of text)
unfolding keyword_of
keyword-shaped text h = or-shaped (keyword_among all_keywords text) (name text) h

abbrev ShapedFront : Front → Type 0
ShapedFront (found p rest) = IsShaped p
ShapedFront _ = Unit {0}

shaped-either : (c : Bool) (f g : Front) → ShapedFront f → ShapedFront g → ShapedFront (cond c f g)
shaped-either true f g h i = h
shaped-either false f g h i = i

shaped-number : (sign : ℕ) (line text : List ℕ) → take (sign + prefix_len is_digit (drop sign line)) line ≡ text → IsNumberText text → ShapedFront (number_in sign line)
shaped-number sign line text e h =
    let size : ℕ = sign + prefix_len is_digit (drop sign line) in
    shaped-either (begins is_name (drop size line)) bad (found (number (take size line)) (drop size line)) tt (rw e h)

shaped-dash : (c : Bool) (dash : ℕ) (bs : List ℕ) → kind_of dash ≡ Dash → (c ≡ true → begins is_digit bs ≡ true) → ShapedFront (cond c (number_in 1 (dash ∷ bs)) (found (symbol Minus) bs))
shaped-dash true dash [] e h = absurd (let n = h refl in cc)
shaped-dash true dash (b ∷ bs) e h =
    let size : 1 + prefix_len is_digit (b ∷ bs) ≡ suc (suc (prefix_len is_digit bs)) = let m = run_yes is_digit b bs (h refl) in omega arith in
    shaped-number 1 (dash ∷ b ∷ bs) (dash ∷ b ∷ take (prefix_len is_digit bs) bs) (ap (λ (n : ℕ). take n (dash ∷ b ∷ bs)) size) (negative dash b _ e (digit_is b (h refl)) (run_passes is_digit bs))
shaped-dash false dash bs e h = tt

shaped-kind : (signed : Bool) (b : ℕ) (bs : List ℕ) (k : Kind) → kind_of b ≡ k → ShapedFront (front_of signed k (b ∷ bs))
shaped-kind signed b bs Letter e =
    let size = run_yes is_name b bs (ap is_name_kind e) in
    subst (λ (n : ℕ). IsShaped (keyword_of (take n (b ∷ bs)))) (sym size) (keyword-shaped (b ∷ take (prefix_len is_name bs) bs) (letters b (take (prefix_len is_name bs) bs) e (run_passes is_name bs)))
shaped-kind signed b bs Digit e =
    let size : 0 + prefix_len is_digit (b ∷ bs) ≡ suc (prefix_len is_digit bs) = let m = run_yes is_digit b bs (ap is_digit_kind e) in omega arith in
    shaped-number 0 (b ∷ bs) (b ∷ take (prefix_len is_digit bs) bs) (ap (λ (n : ℕ). take n (b ∷ bs)) size) (plain b _ e (run_passes is_digit bs))
shaped-kind true b bs Dash e = shaped-dash (begins is_digit bs) b bs e (λ y. y)
shaped-kind false b bs Dash e = tt
shaped-kind signed b bs Bang e = shaped-either (begins is_equals bs) (found (symbol Unequal) (drop 1 bs)) bad tt tt
shaped-kind signed b bs (Pair short long) e = shaped-either (begins is_equals bs) (found (symbol long) (drop 1 bs)) (found (symbol short) bs) tt tt
shaped-kind signed b bs (Plain x) e = tt
shaped-kind signed b bs _ e = tt

pub shaped-at : (signed : Bool) (line : List ℕ) (p : Piece) (after : List ℕ) → found p after ≡ token_at signed line → IsShaped p
unfolding token_at
shaped-at signed line p after e = subst ShapedFront (sym e) (inside (drop (prefix_len is_blank line) line))
  where
    inside : (l : List ℕ) → ShapedFront (token_in signed l)
    inside [] = tt
    inside (b ∷ bs) = shaped-kind signed b bs (kind_of b) refl

-- ---- the values of a line's texts

pub HaveValues-push : (ps : List Piece) (ts : List Token) (p : Piece) (t : Token) → HaveValues ps ts → HasValue p t → HaveValues (ps ++ p ∷ []) (ts ++ t ∷ [])
HaveValues-push ps ts p t none h = another p t [] [] h none
HaveValues-push ps ts p t (another q u qs us g d) h = another q u (qs ++ p ∷ []) (us ++ t ∷ []) g (HaveValues-push qs us p t d h)
