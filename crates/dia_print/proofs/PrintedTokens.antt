-- Tokens after tokens, and lines after lines.
use Rattle.std.proofs.Common.{◌≡◌, ℕ, List, [], ◌∷◌, ◌++◌, codes, refl, sym, ap, ◌∙◌, append_assoc}
use Rattle.std.specs.Prelude.{Result, Ok, Err, OnOk}
use Rattle.dia_tokens.specs.declared.token.Token.{Token}
use Rattle.dia_tokens.specs.declared.edge.Edge.{Edge}
use Rattle.dia_tokens.specs.declared.edge.Edge.TheVariants.{Tight}
use Rattle.dia_tokens.specs.TokenText.{text_after, line_of}
use Rattle.dia_print.specs.Printed.{Printed, with_token, with_tokens, with_bytes, ended}

pub with_tokens-append : (p : Printed) (ts us : List Token) → with_tokens p (ts ++ us) ≡ with_tokens (with_tokens p ts) us
with_tokens-append p [] us = refl
with_tokens-append p (t ∷ ts) us = with_tokens-append (with_token p t) ts us

-- tokens and then more
pub after : (p q r : Printed) (ts us : List Token) → q ≡ with_tokens p ts → r ≡ with_tokens q us → r ≡ with_tokens p (ts ++ us)
after p q r ts us e f = f ∙ ap (λ (k : Printed). with_tokens k us) e ∙ sym (with_tokens-append p ts us)

abbrev tight : List ℕ → Printed
tight text = record { text = text; edge = Tight }

-- bytes after bytes
pub with-more : (p : Printed) (xs ys : List ℕ) → with_bytes (with_bytes p xs) ys ≡ with_bytes p (xs ++ ys)
with-more p xs ys = ap tight (append_assoc p.text xs ys)

ended-is : (p : Printed) (ts : List Token) → ended (with_tokens p ts) ≡ with_bytes p (text_after p.edge ts ++ 10 ∷ [])
ended-is p [] = refl
ended-is p (t ∷ ts) = ended-is (with_token p t) ts ∙ ap tight (simp append_assoc)

-- tokens at the start of a line, and its end
pub line-is : (p q : Printed) (ts : List Token) → p.edge ≡ Tight → q ≡ with_tokens p ts → ended q ≡ with_bytes p (line_of ts)
line-is p q ts starts e = ap ended e ∙ ended-is p ts ∙ ap (λ (edge : Edge). with_bytes p (text_after edge ts ++ 10 ∷ [])) starts

-- two spaces before a line
pub indented : (p q r : Printed) (ts : List Token) → q ≡ with_bytes p (codes "  ") → r ≡ with_tokens q ts → ended r ≡ with_bytes p (codes "  " ++ line_of ts)
indented p q r ts e f =
    line-is q r ts (ap (λ (k : Printed). k.edge) e) f ∙ ap (λ (k : Printed). with_bytes k (line_of ts)) e ∙ with-more p (codes "  ") (line_of ts)

pub OnOk-map : {A E : Type 0} {P Q : Type 0} (r : Result A E) → OnOk r P → (P → Q) → OnOk r Q
OnOk-map (Ok a) h f = f h
OnOk-map (Err e) h f = h
