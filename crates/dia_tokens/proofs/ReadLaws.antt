-- The loops that read a line's tokens.
use Rattle.std.proofs.Common.{◌≡◌, ℕ, Bool, true, false, List, [], ◌∷◌, ◌++◌, Option, Some, None, refl, ap, ◌∙◌}
use Rattle.std.specs.Prelude.{◌&&◌}
use Rattle.std.specs.List.{list_all}
use Rattle.std.proofs.Math.Bool.{and-true, and-false}
use Rattle.std.proofs.lemmas.List.Folds.{list_all-append}
use Rattle.dia_tokens.specs.declared.line.LineFail.TheVariants.{BadToken}
use Rattle.dia_tokens.specs.declared.values.ValueFail.{ValueFail}
use Rattle.dia_tokens.specs.declared.values.ValueFail.TheVariants.{NumberTooWide, NameTooLong}
use Rattle.dia_tokens.specs.declared.token.Token.{Token}
use Rattle.dia_tokens.specs.declared.token.Token.TheVariants as value
use Rattle.dia_tokens.specs.Kinds.{is_allowed}
use Rattle.dia_tokens.specs.Lexes.{signs}
use Rattle.dia_tokens.specs.Line.{Spells, HasFault, a_bad_token, a_wide_number, a_long_name, Refuses}
use Rattle.dia_tokens.specs.Pieces.{Piece, keyword, name, number, symbol}
use Rattle.dia_tokens.specs.Reading.{nothing, bad, found, token_at}
use Rattle.dia_tokens.specs.Shapes.{FailsOn, first_fault, line_fail}
use Rattle.dia_tokens.specs.Values.{number_of, is_narrow, is_short, HasValue, of_keyword, of_name, of_number, of_symbol, HaveValues, none}
use Rattle.dia_tokens.proofs.LexLaws.{Between, Between-starts, Between-found, Between-ends, Between-bad}
use Rattle.dia_tokens.proofs.OneLine.{narrow, all-narrow}
use Rattle.dia_tokens.proofs.ValueLaws.{HaveValues-push}

-- the values of the texts, or the fault that goes before their others
abbrev pub HasOutcome : List Piece → List Token → Option ValueFail → Type 0
HasOutcome ps ts None = HaveValues ps ts
HasOutcome ps ts (Some NumberTooWide) = list_all is_narrow ps ≡ false
HasOutcome ps ts (Some NameTooLong) = (list_all is_narrow ps ≡ true) × (list_all is_short ps ≡ false)

pushed : (p : Piece → Bool) (ps : List Piece) (q : Piece) → list_all p (ps ++ q ∷ []) ≡ (list_all p ps && p q)
pushed p ps q = list_all-append p ps (q ∷ []) ∙ ap (λ (b : Bool). list_all p ps && b) (and-true (p q))

fails-before : (p : Piece → Bool) (ps : List Piece) (q : Piece) → list_all p ps ≡ false → list_all p (ps ++ q ∷ []) ≡ false
fails-before p ps q e = rw (pushed p ps q, e) refl

fails-at : (p : Piece → Bool) (ps : List Piece) (q : Piece) → p q ≡ false → list_all p (ps ++ q ∷ []) ≡ false
fails-at p ps q e = rw (pushed p ps q, e) (and-false (list_all p ps))

holds-on : (p : Piece → Bool) (ps : List Piece) (q : Piece) → list_all p ps ≡ true → p q ≡ true → list_all p (ps ++ q ∷ []) ≡ true
holds-on p ps q e f = rw (pushed p ps q, e, f) refl

HasOutcome-value : (ps : List Piece) (ts : List Token) (f : Option ValueFail) (p : Piece) (t : Token) → HasOutcome ps ts f → HasValue p t → HasOutcome (ps ++ p ∷ []) (ts ++ t ∷ []) f
HasOutcome-value ps ts None p t h v = HaveValues-push ps ts p t h v
HasOutcome-value ps ts (Some NumberTooWide) p t h v = fails-before is_narrow ps p h
HasOutcome-value ps ts (Some NameTooLong) p t h v = (holds-on is_narrow ps p h.0 (narrow p t v), fails-before is_short ps p h.1)

long-narrow : (p : Piece) → is_short p ≡ false → is_narrow p ≡ true
long-narrow (name text) e = refl
long-narrow (number text) e = absurd cc
long-narrow (keyword w) e = absurd cc
long-narrow (symbol s) e = absurd cc

HasOutcome-fault : (ps : List Piece) (ts : List Token) (f : Option ValueFail) (p : Piece) (e : ValueFail) → HasOutcome ps ts f → FailsOn p e → HasOutcome (ps ++ p ∷ []) ts (Some (first_fault f e))
HasOutcome-fault ps ts (Some NumberTooWide) p e h g = fails-before is_narrow ps p h
HasOutcome-fault ps ts None p NumberTooWide h g = fails-at is_narrow ps p g
HasOutcome-fault ps ts None p NameTooLong h g = (holds-on is_narrow ps p (all-narrow ps ts h) (long-narrow p g), fails-at is_short ps p g)
HasOutcome-fault ps ts (Some NameTooLong) p NumberTooWide h g = fails-at is_narrow ps p g
HasOutcome-fault ps ts (Some NameTooLong) p NameTooLong h g = (holds-on is_narrow ps p h.0 (long-narrow p g), fails-at is_short ps p g)

-- what was read of the line, up to the rest
pub record Reads (line : List ℕ) (ts : List Token) (fault : Option ValueFail) (signed : Bool) (rest : List ℕ) : Type 0 where
  pub texts : List Piece
  pub between : Between line texts signed rest
  pub outcome : HasOutcome texts ts fault
  pub unread : token_at true line ≡ bad → (rest ≡ line) × (signed ≡ true)

pub Reads-starts : (line : List ℕ) → Reads line [] None true line
Reads-starts line = record { texts = []; between = Between-starts line; outcome = none; unread = λ b. (refl, refl) }

-- a line whose first token was found doesn't begin with a text that makes none
pub Reads-found : {line : List ℕ} {ts : List Token} {f : Option ValueFail} {signed : Bool} {rest : List ℕ} {p : Piece} {after : List ℕ} → Reads line ts f signed rest → found p after ≡ token_at signed rest
    → token_at true line ≡ bad → ⊥
Reads-found {line} {ts} {f} {signed} {rest} {p} {after} r e b =
    let s = r.unread b in
    let no : found p after ≡ bad = e ∙ rw (s.0, s.1) b in
    cc

pub Reads-value : {line : List ℕ} {ts : List Token} {f : Option ValueFail} {signed : Bool} {rest : List ℕ} {p : Piece} {after : List ℕ} {t : Token} → Reads line ts f signed rest → found p after ≡ token_at signed rest → HasValue p t
    → Reads line (ts ++ t ∷ []) f (signs p) after
Reads-value {line} {ts} {f} {signed} {rest} {p} {after} {t} r e v = record {
  texts = r.texts ++ p ∷ [];
  between = Between-found line r.texts signed rest p after r.between e;
  outcome = HasOutcome-value r.texts ts f p t r.outcome v;
  unread = λ b. absurd (Reads-found r e b);
}

pub Reads-fault : {line : List ℕ} {ts : List Token} {f : Option ValueFail} {signed : Bool} {rest : List ℕ} {p : Piece} {after : List ℕ} (x : ValueFail) → Reads line ts f signed rest → found p after ≡ token_at signed rest → FailsOn p x
    → Reads line ts (Some (first_fault f x)) (signs p) after
Reads-fault {line} {ts} {f} {signed} {rest} {p} {after} x r e g = record {
  texts = r.texts ++ p ∷ [];
  between = Between-found line r.texts signed rest p after r.between e;
  outcome = HasOutcome-fault r.texts ts f p x r.outcome g;
  unread = λ b. absurd (Reads-found r e b);
}

pub Reads-bad : {line : List ℕ} {ts : List Token} {f : Option ValueFail} {signed : Bool} {rest : List ℕ} → Reads line ts f signed rest → bad ≡ token_at signed rest → list_all is_allowed line ≡ true → HasFault line BadToken
Reads-bad {line} {ts} {f} {signed} {rest} r e a = a_bad_token line a (Between-bad line r.texts signed rest r.between e)

pub Reads-tokens : {line : List ℕ} {ts : List Token} {signed : Bool} {rest : List ℕ} → Reads line ts None signed rest → nothing ≡ token_at signed rest → list_all is_allowed line ≡ true → Spells line ts
Reads-tokens {line} {ts} {signed} {rest} r e a = record { texts = r.texts; allowed = a; lexes = Between-ends line r.texts signed rest r.between e; values = r.outcome }

pub Reads-faulty : {line : List ℕ} {ts : List Token} {x : ValueFail} {signed : Bool} {rest : List ℕ} → Reads line ts (Some x) signed rest → nothing ≡ token_at signed rest → list_all is_allowed line ≡ true → Refuses line (line_fail x)
Reads-faulty {line} {ts} {x} {signed} {rest} r e a = refused x r.outcome
  where
    refused : (x : ValueFail) → HasOutcome r.texts ts (Some x) → Refuses line (line_fail x)
    refused NumberTooWide h = a_wide_number line r.texts a (Between-ends line r.texts signed rest r.between e) h
    refused NameTooLong h = a_long_name line r.texts a (Between-ends line r.texts signed rest r.between e) h.0 h.1

-- a text without a fault has a value
pub has-value : (p : Piece) → is_narrow p ≡ true → is_short p ≡ true → (t : Token) × HasValue p t
has-value (keyword w) narrow short = (value.Keyword w, of_keyword w)
has-value (name text) narrow short = (value.Name text, of_name text short)
has-value (number text) narrow short = (value.Number (number_of text), of_number text narrow)
has-value (symbol s) narrow short = (value.Symbol s, of_symbol s)
