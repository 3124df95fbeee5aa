-- The tokens that are read are those that the bytes are.
use Rattle.std.proofs.Common.{◌≡◌, ℕ, zero, suc, ◌+◌, ◌<◌, Bool, true, false, cond, List, [], ◌∷◌, ◌++◌, length, take, drop, refl, sym, ap, subst, ◌∙◌, append_assoc, arith, inl, inr}
use Rattle.std.specs.Prelude.{◌&&◌}
use Rattle.std.specs.List.{prefix_len}
use Rattle.std.proofs.lemmas.Bool.{cases_Bool}
use Rattle.std.proofs.lemmas.List.{take-append-drop, take_at, drop_at, length-drop, append-nil}
use Rattle.dia_tokens.specs.declared.token.Symbol.{Symbol}
use Rattle.dia_tokens.specs.declared.token.Symbol.TheVariants.{Unequal, Minus}
use Rattle.dia_tokens.specs.declared.kind.Kind.{Kind}
use Rattle.dia_tokens.specs.declared.kind.Kind.TheVariants.{Blank, Hash, Letter, Digit, Dash, Bang, Pair, Plain}
use Rattle.dia_tokens.specs.Kinds.{kind_of, is_name, is_digit, is_blank, is_equals, is_name_kind, is_digit_kind, is_blank_kind}
use Rattle.dia_tokens.specs.Pieces.{Piece, number, symbol}
use Rattle.dia_tokens.specs.Keywords.{keyword_of}
use Rattle.dia_tokens.specs.Lexes.{signs, Passes, Stops, Lexes, ends, a_comment, a_blank, a_name, a_number, a_signed_number, a_minus, an_unequal, a_short, a_long, a_plain}
use Rattle.dia_tokens.specs.Reading.{Front, nothing, bad, found, begins, name_in, number_in, front_of, token_in, token_at}

-- ---- runs of bytes

run_of : (p : ℕ → Bool) (text rest : List ℕ) → Passes p text → Stops p rest → prefix_len p (text ++ rest) ≡ length text
run_of p [] [] h s = refl
run_of p [] (b ∷ rest) h s = rw s refl
run_of p (b ∷ text) rest h s = rw h.0 (let e = run_of p text rest h.1 s in omega arith)

pub run_yes : (p : ℕ → Bool) (b : ℕ) (bs : List ℕ) → p b ≡ true → prefix_len p (b ∷ bs) ≡ suc (prefix_len p bs)
run_yes p b bs e = rw e (omega arith)

run_no : (p : ℕ → Bool) (b : ℕ) (bs : List ℕ) → p b ≡ false → prefix_len p (b ∷ bs) ≡ 0
run_no p b bs e = rw e refl

pub run_passes : (p : ℕ → Bool) (bs : List ℕ) → Passes p (take (prefix_len p bs) bs)
run_passes p [] = tt
run_passes p (b ∷ bs) =
    elim (cases_Bool (p b)) [
      | inl e ↦ subst (λ (n : ℕ). Passes p (take n (b ∷ bs))) (sym (run_yes p b bs e)) (e, run_passes p bs)
      | inr e ↦ subst (λ (n : ℕ). Passes p (take n (b ∷ bs))) (sym (run_no p b bs e)) tt
    ]

run_stops : (p : ℕ → Bool) (bs : List ℕ) → Stops p (drop (prefix_len p bs) bs)
run_stops p [] = tt
run_stops p (b ∷ bs) =
    elim (cases_Bool (p b)) [
      | inl e ↦ subst (λ (n : ℕ). Stops p (drop n (b ∷ bs))) (sym (run_yes p b bs e)) (run_stops p bs)
      | inr e ↦ subst (λ (n : ℕ). Stops p (drop n (b ∷ bs))) (sym (run_no p b bs e)) e
    ]

digit_is_name : (b : ℕ) → is_digit b ≡ true → is_name b ≡ true
digit_is_name b = go (kind_of b)
  where
    go : (k : Kind) → is_digit_kind k ≡ true → is_name_kind k ≡ true
    go Digit e = refl
    go _ e = absurd cc

Stops-digit : (bs : List ℕ) → Stops is_name bs → Stops is_digit bs
Stops-digit [] h = tt
Stops-digit (b ∷ bs) h = elim (cases_Bool (is_digit b)) [ inl e ↦ absurd (let n = digit_is_name b e in cc) | inr e ↦ e ]

begins-stops : (p : ℕ → Bool) (bs : List ℕ) → begins p bs ≡ false → Stops p bs
begins-stops p [] h = tt
begins-stops p (b ∷ bs) h = h

stops-begins : (p : ℕ → Bool) (bs : List ℕ) → Stops p bs → begins p bs ≡ false
stops-begins p [] h = refl
stops-begins p (b ∷ bs) h = h

-- ---- one token

pub at_kind : (signed : Bool) (k : Kind) (b : ℕ) (bs : List ℕ) → kind_of b ≡ k → is_blank_kind k ≡ false → token_at signed (b ∷ bs) ≡ front_of signed k (b ∷ bs)
unfolding token_at
at_kind signed k b bs e n =
    let none : prefix_len is_blank (b ∷ bs) ≡ 0 = run_no is_blank b bs (ap is_blank_kind e ∙ n) in
    rw none (ap (λ (k : Kind). front_of signed k (b ∷ bs)) e)

pub at_blank : (signed : Bool) (b : ℕ) (bs : List ℕ) → kind_of b ≡ Blank → token_at signed (b ∷ bs) ≡ token_at signed bs
unfolding token_at
at_blank signed b bs e = ap (λ (n : ℕ). token_in signed (drop n (b ∷ bs))) (run_yes is_blank b bs (ap is_blank_kind e))

nothing_left : (signed : Bool) → token_at signed [] ≡ nothing
unfolding token_at
nothing_left signed = refl

name_front : (b : ℕ) (text rest : List ℕ) → kind_of b ≡ Letter → Passes is_name text → Stops is_name rest → name_in (b ∷ (text ++ rest)) ≡ found (keyword_of (b ∷ text)) rest
name_front b text rest e h s =
    let n : prefix_len is_name (b ∷ (text ++ rest)) ≡ length (b ∷ text) = run_of is_name (b ∷ text) rest (ap is_name_kind e, h) s in
    rw (n, take_at (b ∷ text) rest (length (b ∷ text)) refl, drop_at (b ∷ text) rest (length (b ∷ text)) refl) refl

digits_front : (b : ℕ) (text rest : List ℕ) → kind_of b ≡ Digit → Passes is_digit text → Stops is_name rest → number_in 0 (b ∷ (text ++ rest)) ≡ found (number (b ∷ text)) rest
digits_front b text rest e h s =
    let n : 0 + prefix_len is_digit (b ∷ (text ++ rest)) ≡ length (b ∷ text) = let m = run_of is_digit (b ∷ text) rest (ap is_digit_kind e, h) (Stops-digit rest s) in omega arith in
    rw (n, take_at (b ∷ text) rest (length (b ∷ text)) refl, drop_at (b ∷ text) rest (length (b ∷ text)) refl, stops-begins is_name rest s) refl

signed_front : (dash b : ℕ) (text rest : List ℕ) → kind_of b ≡ Digit → Passes is_digit text → Stops is_name rest → number_in 1 (dash ∷ b ∷ (text ++ rest)) ≡ found (number (dash ∷ b ∷ text)) rest
signed_front dash b text rest e h s =
    let whole : List ℕ = dash ∷ b ∷ text in
    let n : 1 + prefix_len is_digit (b ∷ (text ++ rest)) ≡ length whole = let m = run_of is_digit (b ∷ text) rest (ap is_digit_kind e, h) (Stops-digit rest s) in omega arith in
    rw (n, take_at whole rest (length whole) refl, drop_at whole rest (length whole) refl, stops-begins is_name rest s) refl

front_minus : (signed : Bool) (dash : ℕ) (rest : List ℕ) → (signed ≡ true → Stops is_digit rest) → front_of signed Dash (dash ∷ rest) ≡ found (symbol Minus) rest
front_minus true dash rest h = rw (stops-begins is_digit rest (h refl)) refl
front_minus false dash rest h = refl

-- ---- what is read is so

-- what a front says of a line
abbrev pub Says : Bool → List ℕ → Front → Type 0
Says signed line nothing = Lexes signed line []
Says signed line bad = Unit {0}
Says signed line (found t rest) = (ts : List Piece) → Lexes (signs t) rest ts → Lexes signed line (t ∷ ts)

blanks : (signed : Bool) (line : List ℕ) (ts : List Piece) → Lexes signed (drop (prefix_len is_blank line) line) ts → Lexes signed line ts
blanks signed [] ts d = d
blanks signed (b ∷ bs) ts d =
    elim (cases_Bool (is_blank b)) [
      | inl e ↦ a_blank signed b bs ts (blank_is (kind_of b) e) (blanks signed bs ts (subst (λ (n : ℕ). Lexes signed (drop n (b ∷ bs)) ts) (run_yes is_blank b bs e) d))
      | inr e ↦ subst (λ (n : ℕ). Lexes signed (drop n (b ∷ bs)) ts) (run_no is_blank b bs e) d
    ]
  where
    blank_is : (k : Kind) → is_blank_kind k ≡ true → k ≡ Blank
    blank_is Blank e = refl
    blank_is _ e = absurd cc

-- a run and what follows
run_whole : (p : ℕ → Bool) (bs : List ℕ) → take (prefix_len p bs) bs ++ drop (prefix_len p bs) bs ≡ bs
run_whole p bs = take-append-drop (prefix_len p bs) bs

Says-name : (signed : Bool) (b : ℕ) (bs : List ℕ) → kind_of b ≡ Letter → Says signed (b ∷ bs) (name_in (b ∷ bs))
Says-name signed b bs e =
    let n : prefix_len is_name (b ∷ bs) ≡ suc (prefix_len is_name bs) = run_yes is_name b bs (ap is_name_kind e) in
    let text : List ℕ = take (prefix_len is_name bs) bs in
    let rest : List ℕ = drop (prefix_len is_name bs) bs in
    let says : Says signed (b ∷ bs) (found (keyword_of (b ∷ text)) rest) = λ ts d.
    subst (λ (l : List ℕ). Lexes signed (b ∷ l) (keyword_of (b ∷ text) ∷ ts)) (run_whole is_name bs) (a_name signed b text rest ts e (run_passes is_name bs) (run_stops is_name bs) d) in
    subst (λ (k : ℕ). Says signed (b ∷ bs) (found (keyword_of (take k (b ∷ bs))) (drop k (b ∷ bs)))) (sym n) says

Says-number : (signed : Bool) (b : ℕ) (bs : List ℕ) → kind_of b ≡ Digit → Says signed (b ∷ bs) (number_in 0 (b ∷ bs))
Says-number signed b bs e =
    let size : 0 + prefix_len is_digit (b ∷ bs) ≡ suc (prefix_len is_digit bs) = let m = run_yes is_digit b bs (ap is_digit_kind e) in omega arith in
    let text : List ℕ = take (prefix_len is_digit bs) bs in
    let rest : List ℕ = drop (prefix_len is_digit bs) bs in
    let says : Says signed (b ∷ bs) (cond (begins is_name rest) bad (found (number (b ∷ text)) rest)) =
    elim (cases_Bool (begins is_name rest)) [
      | inl y ↦ rw y tt
      | inr n ↦ rw n (λ ts d. subst (λ (l : List ℕ). Lexes signed (b ∷ l) (number (b ∷ text) ∷ ts)) (run_whole is_digit bs) (a_number signed b text rest ts e (run_passes is_digit bs) (begins-stops is_name rest n) d))
    ] in
    subst (λ (k : ℕ). Says signed (b ∷ bs) (cond (begins is_name (drop k (b ∷ bs))) bad (found (number (take k (b ∷ bs))) (drop k (b ∷ bs))))) (sym size) says

Says-signed : (dash b : ℕ) (bs : List ℕ) → kind_of dash ≡ Dash → kind_of b ≡ Digit → Says true (dash ∷ b ∷ bs) (number_in 1 (dash ∷ b ∷ bs))
Says-signed dash b bs f e =
    let size : 1 + prefix_len is_digit (b ∷ bs) ≡ suc (suc (prefix_len is_digit bs)) = let m = run_yes is_digit b bs (ap is_digit_kind e) in omega arith in
    let text : List ℕ = take (prefix_len is_digit bs) bs in
    let rest : List ℕ = drop (prefix_len is_digit bs) bs in
    let says : Says true (dash ∷ b ∷ bs) (cond (begins is_name rest) bad (found (number (dash ∷ b ∷ text)) rest)) =
    elim (cases_Bool (begins is_name rest)) [
      | inl y ↦ rw y tt
      | inr n ↦ rw n (λ ts d. subst (λ (l : List ℕ). Lexes true (dash ∷ b ∷ l) (number (dash ∷ b ∷ text) ∷ ts)) (run_whole is_digit bs) (a_signed_number dash b text rest ts f e (run_passes is_digit bs) (begins-stops is_name rest n) d))
    ] in
    subst (λ (k : ℕ). Says true (dash ∷ b ∷ bs) (cond (begins is_name (drop k (dash ∷ b ∷ bs))) bad (found (number (take k (dash ∷ b ∷ bs))) (drop k (dash ∷ b ∷ bs))))) (sym size) says

pub digit_is : (b : ℕ) → is_digit b ≡ true → kind_of b ≡ Digit
digit_is b = go (kind_of b)
  where
    go : (k : Kind) → is_digit_kind k ≡ true → k ≡ Digit
    go Digit e = refl
    go _ e = absurd cc

Says-dash : (signed : Bool) (dash : ℕ) (bs : List ℕ) → kind_of dash ≡ Dash → Says signed (dash ∷ bs) (front_of signed Dash (dash ∷ bs))
Says-dash false dash bs e = λ ts d. a_minus false dash bs ts e (λ h. absurd cc) d
Says-dash true dash [] e = λ ts d. a_minus true dash [] ts e (λ _. tt) d
Says-dash true dash (b ∷ bs) e =
    elim (cases_Bool (is_digit b)) [
      | inl y ↦ subst (λ (d : Bool). Says true (dash ∷ b ∷ bs) (cond d (number_in 1 (dash ∷ b ∷ bs)) (found (symbol Minus) (b ∷ bs)))) (sym y) (Says-signed dash b bs e (digit_is b y))
      | inr n ↦ rw n (λ ts d. a_minus true dash (b ∷ bs) ts e (λ _. n) d)
    ]

Says-bang : (signed : Bool) (b : ℕ) (bs : List ℕ) → kind_of b ≡ Bang → Says signed (b ∷ bs) (front_of signed Bang (b ∷ bs))
Says-bang signed b [] e = tt
Says-bang signed b (c ∷ bs) e =
    elim (cases_Bool (is_equals c)) [
      | inl y ↦ rw y (λ ts d. an_unequal signed b c bs ts e y d)
      | inr n ↦ rw n tt
    ]

Says-pair : (signed : Bool) (b : ℕ) (bs : List ℕ) (short long : Symbol) → kind_of b ≡ Pair short long → Says signed (b ∷ bs) (front_of signed (Pair short long) (b ∷ bs))
Says-pair signed b [] short long e = λ ts d. a_short signed b short long [] ts e tt d
Says-pair signed b (c ∷ bs) short long e =
    elim (cases_Bool (is_equals c)) [
      | inl y ↦ rw y (λ ts d. a_long signed b c short long bs ts e y d)
      | inr n ↦ rw n (λ ts d. a_short signed b short long (c ∷ bs) ts e n d)
    ]

Says-kind : (signed : Bool) (b : ℕ) (bs : List ℕ) (k : Kind) → kind_of b ≡ k → Says signed (b ∷ bs) (front_of signed k (b ∷ bs))
Says-kind signed b bs Hash e = a_comment signed b bs e
Says-kind signed b bs Letter e = Says-name signed b bs e
Says-kind signed b bs Digit e = Says-number signed b bs e
Says-kind signed b bs Dash e = Says-dash signed b bs e
Says-kind signed b bs Bang e = Says-bang signed b bs e
Says-kind signed b bs (Pair short long) e = Says-pair signed b bs short long e
Says-kind signed b bs (Plain x) e = λ ts d. a_plain signed b x bs ts e d
Says-kind signed b bs _ e = tt

Says-in : (signed : Bool) (line : List ℕ) → Says signed line (token_in signed line)
Says-in signed [] = ends signed
Says-in signed (b ∷ bs) = Says-kind signed b bs (kind_of b) refl

Says-blanks : (signed : Bool) (line : List ℕ) (f : Front) → Says signed (drop (prefix_len is_blank line) line) f → Says signed line f
Says-blanks signed line nothing s = blanks signed line [] s
Says-blanks signed line bad s = tt
Says-blanks signed line (found t rest) s = λ ts d. blanks signed line (t ∷ ts) (s ts d)

pub Says-at : (signed : Bool) (line : List ℕ) → Says signed line (token_at signed line)
unfolding token_at
Says-at signed line = Says-blanks signed line (token_in signed (drop (prefix_len is_blank line) line)) (Says-in signed (drop (prefix_len is_blank line) line))

-- ---- what is so is read, front by front

abbrev pub Inverts : List Piece → Front → Type 0
Inverts ts nothing = ts ≡ []
Inverts ts bad = ⊥
Inverts ts (found t rest) = (us : List Piece) × (ts ≡ t ∷ us) × Lexes (signs t) rest us

inverts : (ts : List Piece) (f g : Front) → f ≡ g → Inverts ts g → Inverts ts f
inverts ts f g e h = subst (Inverts ts) (sym e) h

pub Inverts-at : (signed : Bool) (line : List ℕ) (ts : List Piece) → Lexes signed line ts → Inverts ts (token_at signed line)
Inverts-at signed line ts (ends s) = inverts [] _ nothing (nothing_left s) refl
Inverts-at signed line ts (a_comment s b bs e) = inverts [] _ nothing (at_kind s Hash b bs e refl) refl
Inverts-at signed line ts (a_blank s b bs us e d) = inverts us _ (token_at s bs) (at_blank s b bs e) (Inverts-at s bs us d)
Inverts-at signed line ts (a_name s b text rest us e p q d) =
    inverts _ _ (found (keyword_of (b ∷ text)) rest) (at_kind s Letter b (text ++ rest) e refl ∙ name_front b text rest e p q) (us, refl, d)
Inverts-at signed line ts (a_number s b text rest us e p q d) =
    inverts _ _ (found (number (b ∷ text)) rest) (at_kind s Digit b (text ++ rest) e refl ∙ digits_front b text rest e p q) (us, refl, d)
Inverts-at signed line ts (a_signed_number dash b text rest us e f p q d) =
    let digit : is_digit b ≡ true = ap is_digit_kind f in
    let front : front_of true Dash (dash ∷ b ∷ (text ++ rest)) ≡ found (number (dash ∷ b ∷ text)) rest =
    ap (λ (d : Bool). cond d (number_in 1 (dash ∷ b ∷ (text ++ rest))) (found (symbol Minus) (b ∷ (text ++ rest)))) digit ∙ signed_front dash b text rest f p q in
    inverts _ _ (found (number (dash ∷ b ∷ text)) rest) (at_kind true Dash dash (b ∷ (text ++ rest)) e refl ∙ front) (us, refl, d)
Inverts-at signed line ts (a_minus s dash rest us e n d) =
    inverts _ _ (found (symbol Minus) rest) (at_kind s Dash dash rest e refl ∙ front_minus s dash rest n) (us, refl, d)
Inverts-at signed line ts (an_unequal s b c rest us e f d) =
    inverts _ _ (found (symbol Unequal) rest) (at_kind s Bang b (c ∷ rest) e refl ∙ rw f refl) (us, refl, d)
Inverts-at signed line ts (a_short s b short long rest us e n d) =
    inverts _ _ (found (symbol short) rest) (at_kind s (Pair short long) b rest e refl ∙ rw (stops-begins is_equals rest n) refl) (us, refl, d)
Inverts-at signed line ts (a_long s b c short long rest us e f d) =
    inverts _ _ (found (symbol long) rest) (at_kind s (Pair short long) b (c ∷ rest) e refl ∙ rw f refl) (us, refl, d)
Inverts-at signed line ts (a_plain s b x rest us e d) = inverts _ _ (found (symbol x) rest) (at_kind s (Plain x) b rest e refl) (us, refl, d)

-- ---- the rest is shorter

abbrev pub Shrinks : List ℕ → Front → Type 0
Shrinks line nothing = Unit {0}
Shrinks line bad = Unit {0}
Shrinks line (found t rest) = length rest < length line

Shrinks-found : (p : ℕ → Bool) (b : ℕ) (bs : List ℕ) (t : Piece) → p b ≡ true → Shrinks (b ∷ bs) (found t (drop (prefix_len p (b ∷ bs)) (b ∷ bs)))
Shrinks-found p b bs t e =
    let n = run_yes p b bs e in
    omega (arith, length-drop (prefix_len p (b ∷ bs)) (b ∷ bs))

Shrinks-unless : (c : Bool) (line : List ℕ) (t : Piece) (rest : List ℕ) → length rest < length line → Shrinks line (cond c bad (found t rest))
Shrinks-unless true line t rest h = tt
Shrinks-unless false line t rest h = h

Shrinks-kind : (signed : Bool) (b : ℕ) (bs : List ℕ) (k : Kind) → kind_of b ≡ k → Shrinks (b ∷ bs) (front_of signed k (b ∷ bs))
Shrinks-kind signed b bs Hash e = tt
Shrinks-kind signed b bs Letter e = Shrinks-found is_name b bs (keyword_of (take (prefix_len is_name (b ∷ bs)) (b ∷ bs))) (ap is_name_kind e)
Shrinks-kind signed b bs Digit e =
    Shrinks-unless _ (b ∷ bs) _ _ (let n = run_yes is_digit b bs (ap is_digit_kind e) in omega (arith, length-drop (0 + prefix_len is_digit (b ∷ bs)) (b ∷ bs)))
Shrinks-kind signed b bs Dash e = by_dash (signed && begins is_digit bs)
  where
    by_dash : (c : Bool) → Shrinks (b ∷ bs) (cond c (number_in 1 (b ∷ bs)) (found (symbol Minus) bs))
    by_dash true = Shrinks-unless _ (b ∷ bs) _ _ (omega (arith, length-drop (1 + prefix_len is_digit bs) (b ∷ bs)))
    by_dash false = omega arith
Shrinks-kind signed b bs Bang e = by_equals (begins is_equals bs)
  where
    by_equals : (c : Bool) → Shrinks (b ∷ bs) (cond c (found (symbol Unequal) (drop 1 bs)) bad)
    by_equals true = omega (arith, length-drop 1 bs)
    by_equals false = tt
Shrinks-kind signed b bs (Pair short long) e = by_equals (begins is_equals bs)
  where
    by_equals : (c : Bool) → Shrinks (b ∷ bs) (cond c (found (symbol long) (drop 1 bs)) (found (symbol short) bs))
    by_equals true = omega (arith, length-drop 1 bs)
    by_equals false = omega arith
Shrinks-kind signed b bs (Plain x) e = omega arith
Shrinks-kind signed b bs _ e = tt

pub Shrinks-at : (signed : Bool) (line : List ℕ) → Shrinks line (token_at signed line)
unfolding token_at
Shrinks-at signed line = weaker (token_in signed (drop (prefix_len is_blank line) line)) (inside (drop (prefix_len is_blank line) line))
  where
    inside : (l : List ℕ) → Shrinks l (token_in signed l)
    inside [] = tt
    inside (b ∷ bs) = Shrinks-kind signed b bs (kind_of b) refl

    weaker : (f : Front) → Shrinks (drop (prefix_len is_blank line) line) f → Shrinks line f
    weaker nothing h = tt
    weaker bad h = tt
    weaker (found t rest) h = omega (arith, length-drop (prefix_len is_blank line) line)

-- ---- the loop over a line

-- the tokens so far are those of the line, up to the rest
pub record Between (line : List ℕ) (out : List Piece) (signed : Bool) (rest : List ℕ) : Type 0 where
  pub goes_on : (ts : List Piece) → Lexes signed rest ts → Lexes true line (out ++ ts)
  pub only : (ts : List Piece) → Lexes true line ts → (us : List Piece) × (ts ≡ out ++ us) × Lexes signed rest us

pub Between-starts : (line : List ℕ) → Between line [] true line
Between-starts line = record { goes_on = λ ts d. d; only = λ ts d. (ts, refl, d) }

pub Between-found : (line : List ℕ) (out : List Piece) (signed : Bool) (rest : List ℕ) (t : Piece) (after : List ℕ) → Between line out signed rest → found t after ≡ token_at signed rest → Between line (out ++ t ∷ []) (signs t) after
Between-found line out signed rest t after b e = record {
  goes_on = λ ts d. subst (Lexes true line) (sym (append_assoc out (t ∷ []) ts)) (b.goes_on (t ∷ ts) (let says : Says signed rest (found t after) = subst (Says signed rest) (sym e) (Says-at signed rest) in says ts d));
  only = λ ts d.
      let o = b.only ts d in
      let i : Inverts o.0 (found t after) = subst (Inverts o.0) (sym e) (Inverts-at signed rest o.0 o.2) in
      (i.0, o.1 ∙ ap (λ (us : List Piece). out ++ us) i.1 ∙ sym (append_assoc out (t ∷ []) i.0), i.2);
}

pub Between-ends : (line : List ℕ) (out : List Piece) (signed : Bool) (rest : List ℕ) → Between line out signed rest → nothing ≡ token_at signed rest → Lexes true line out
Between-ends line out signed rest b e =
    let says : Says signed rest nothing = subst (Says signed rest) (sym e) (Says-at signed rest) in
    subst (Lexes true line) (append-nil out) (b.goes_on [] says)

pub Between-bad : (line : List ℕ) (out : List Piece) (signed : Bool) (rest : List ℕ) → Between line out signed rest → bad ≡ token_at signed rest → (ts : List Piece) → Lexes true line ts → ⊥
Between-bad line out signed rest b e ts d = let o = b.only ts d in let i : Inverts o.0 bad = subst (Inverts o.0) (sym e) (Inverts-at signed rest o.0 o.2) in i

-- ---- a line has one list of tokens

one_front : (f : Front) (a b : List Piece) (n : ℕ) (line : List ℕ) → Inverts a f → Inverts b f → Shrinks line f → length line < suc n
    → ((s : Bool) (l : List ℕ) (a b : List Piece) → length l < n → Lexes s l a → Lexes s l b → a ≡ b) → a ≡ b
one_front nothing a b n line i j h k ih = i ∙ sym j
one_front bad a b n line i j h k ih = absurd i
one_front (found t rest) a b n line i j h k ih = i.1 ∙ ap (λ (us : List Piece). t ∷ us) (ih (signs t) rest i.0 j.0 (omega arith) i.2 j.2) ∙ sym j.1

one_below : (n : ℕ) (s : Bool) (l : List ℕ) (a b : List Piece) → length l < n → Lexes s l a → Lexes s l b → a ≡ b
one_below zero s l a b h d e = absurd (omega arith)
one_below (suc n) s l a b h d e = one_front (token_at s l) a b n l (Inverts-at s l a d) (Inverts-at s l b e) (Shrinks-at s l) h (one_below n)

pub Lexes-one : (s : Bool) (l : List ℕ) (a b : List Piece) → Lexes s l a → Lexes s l b → a ≡ b
Lexes-one s l a b d e = one_below (suc (length l)) s l a b (omega arith) d e
