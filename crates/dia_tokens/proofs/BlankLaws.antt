-- A blank line makes no tokens.
use Rattle.std.proofs.Common.{◌≡◌, ℕ, Bool, true, false, List, [], ◌∷◌, ◌≢◌, ◌++◌, refl, sym, ◌∙◌, subst, arith, ◌⊎◌, inl, inr}
use Rattle.std.specs.Prelude.{◌==◌, ◌&&◌}
use Rattle.std.proofs.lemmas.Bool.{cases_Bool}
use Rattle.std.proofs.lemmas.Bool.Decides.{nat_tests}
use Rattle.dia_tokens.specs.declared.kind.Kind.{Kind}
use Rattle.dia_tokens.specs.declared.kind.Kind.TheVariants.{Blank, Hash, Letter, Digit, Dash, Bang, Pair, Plain}
use Rattle.dia_tokens.specs.Blanks.{is_space, is_blank_line}
use Rattle.dia_tokens.specs.Kinds.{kind_of}
use Rattle.dia_tokens.specs.Lexes.{Lexes, ends, a_comment, a_blank, a_name, a_number, a_signed_number, a_minus, an_unequal, a_short, a_long, a_plain}
use Rattle.dia_tokens.specs.Pieces.{Piece}

hash : kind_of 35 ≡ Hash
unfolding kind_of
hash = refl

space : kind_of 32 ≡ Blank
unfolding kind_of
space = refl

tab : kind_of 9 ≡ Blank
unfolding kind_of
tab = refl

is-byte : (b c : ℕ) → (b == c) ≡ true → c ≡ b
is-byte b c e = grind (arith, nat_tests)

space-kind : (b : ℕ) → is_space b ≡ true → kind_of b ≡ Blank
space-kind b e =
    elim (cases_Bool (b == 32)) [
      | inl y ↦ subst (λ (c : ℕ). kind_of c ≡ Blank) (is-byte b 32 y) space
      | inr n ↦ subst (λ (c : ℕ). kind_of c ≡ Blank) (is-byte b 9 (rw n at e)) tab
    ]

blank-first : (b : ℕ) (bs : List ℕ) → is_blank_line (b ∷ bs) ≡ true → (kind_of b ≡ Hash) ⊎ ((kind_of b ≡ Blank) × (is_blank_line bs ≡ true))
blank-first b bs e =
    elim (cases_Bool (b == 35)) [
      | inl y ↦ inl (subst (λ (c : ℕ). kind_of c ≡ Hash) (is-byte b 35 y) hash)
      | inr n ↦ inr (both (is_space b) (is_blank_line bs) refl (rw n at e))
    ]
  where
    both : (s r : Bool) → is_space b ≡ s → (s && r) ≡ true → (kind_of b ≡ Blank) × (r ≡ true)
    both true r is e = (space-kind b is, e)
    both false r is e = absurd cc

-- no other byte begins a blank line
not-first : (b : ℕ) (bs : List ℕ) (k : Kind) → kind_of b ≡ k → k ≢ Hash → k ≢ Blank → is_blank_line (b ∷ bs) ≡ true → ⊥
not-first b bs k e no_hash no_blank h = elim (blank-first b bs h) [ inl is ↦ no_hash (sym e ∙ is) | inr is ↦ no_blank (sym e ∙ is.0) ]

blank-after : (b : ℕ) (bs : List ℕ) → kind_of b ≡ Blank → is_blank_line (b ∷ bs) ≡ true → is_blank_line bs ≡ true
blank-after b bs e h = elim (blank-first b bs h) [ inl is ↦ absurd (let no : Blank ≡ Hash = sym e ∙ is in cc) | inr is ↦ is.1 ]

pub blank-lexes : (s : Bool) (line : List ℕ) → is_blank_line line ≡ true → Lexes s line []
blank-lexes s [] h = ends s
blank-lexes s (b ∷ bs) h = elim (blank-first b bs h) [ inl is ↦ a_comment s b bs is | inr is ↦ a_blank s b bs [] is.0 (blank-lexes s bs is.1) ]

pub blank-texts : (s : Bool) (line : List ℕ) (ps : List Piece) → Lexes s line ps → is_blank_line line ≡ true → ps ≡ []
blank-texts s line ps (ends t) h = refl
blank-texts s line ps (a_comment t b bs e) h = refl
blank-texts s line ps (a_blank t b bs us e d) h = blank-texts t bs us d (blank-after b bs e h)
blank-texts s line ps (a_name t b text rest us e p q d) h = absurd (not-first b (text ++ rest) Letter e (λ x. cc) (λ x. cc) h)
blank-texts s line ps (a_number t b text rest us e p q d) h = absurd (not-first b (text ++ rest) Digit e (λ x. cc) (λ x. cc) h)
blank-texts s line ps (a_signed_number b c text rest us e f p q d) h = absurd (not-first b (c ∷ (text ++ rest)) Dash e (λ x. cc) (λ x. cc) h)
blank-texts s line ps (a_minus t b rest us e n d) h = absurd (not-first b rest Dash e (λ x. cc) (λ x. cc) h)
blank-texts s line ps (an_unequal t b c rest us e f d) h = absurd (not-first b (c ∷ rest) Bang e (λ x. cc) (λ x. cc) h)
blank-texts s line ps (a_short t b short long rest us e n d) h = absurd (not-first b rest (Pair short long) e (λ x. cc) (λ x. cc) h)
blank-texts s line ps (a_long t b c short long rest us e f d) h = absurd (not-first b (c ∷ rest) (Pair short long) e (λ x. cc) (λ x. cc) h)
blank-texts s line ps (a_plain t b x rest us e d) h = absurd (not-first b rest (Plain x) e (λ y. cc) (λ y. cc) h)
