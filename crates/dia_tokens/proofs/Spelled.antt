-- The loop that spells a line's tokens.
use Rattle.std.proofs.Common.{◌≡◌, ℕ, Bool, true, false, List, [], ◌∷◌, ◌++◌, Option, Some, None}
use Rattle.std.specs.List.{list_all}
use Rattle.dia_tokens.specs.declared.token.Token.{Token}
use Rattle.dia_tokens.specs.declared.values.ValueFail.{ValueFail}
use Rattle.dia_tokens.specs.Kinds.{is_allowed}
use Rattle.dia_tokens.specs.Lexes.{signs}
use Rattle.dia_tokens.specs.Line.{Spells, Refuses}
use Rattle.dia_tokens.specs.Pieces.{Piece}
use Rattle.dia_tokens.specs.Reading.{nothing, found, token_at}
use Rattle.dia_tokens.specs.Shapes.{FailsOn, first_fault, line_fail}
use Rattle.dia_tokens.specs.Spelling.{spaced, IsSpelling}
use Rattle.dia_tokens.specs.Values.{is_narrow, is_short}
use Rattle.dia_tokens.proofs.ReadLaws.{Reads, Reads-starts, Reads-value, Reads-fault, Reads-tokens, Reads-faulty, has-value}
use Rattle.dia_tokens.proofs.SpellingLaws.{Leaves, Leaves-starts, Leaves-found, Leaves-ends}

-- what was read and spelled of the line, up to the rest
pub record Spelled (line text : List ℕ) (fault : Option ValueFail) (first signed : Bool) (rest : List ℕ) : Type 0 where
  pub tokens : List Token
  pub reads : Reads line tokens fault signed rest
  pub leaves : Leaves line text first signed rest

pub spelled-starts : (line : List ℕ) → Spelled line [] None true true line
spelled-starts line = record { tokens = []; reads = Reads-starts line; leaves = Leaves-starts line }

pub spelled-value : {line text : List ℕ} {f : Option ValueFail} {first signed : Bool} {rest : List ℕ} {p : Piece} {after : List ℕ} → Spelled line text f first signed rest → found p after ≡ token_at signed rest
    → is_narrow p ≡ true → is_short p ≡ true → Spelled line (text ++ spaced first p) f false (signs p) after
spelled-value {line} {text} {f} {first} {signed} {rest} {p} {after} s e narrow short =
    let v = has-value p narrow short in
    record { tokens = s.tokens ++ v.0 ∷ []; reads = Reads-value s.reads e v.1; leaves = Leaves-found s.leaves e }

pub spelled-fault : {line text : List ℕ} {f : Option ValueFail} {first signed : Bool} {rest : List ℕ} {p : Piece} {after : List ℕ} (x : ValueFail) → Spelled line text f first signed rest → found p after ≡ token_at signed rest
    → FailsOn p x → Spelled line (text ++ spaced first p) (Some (first_fault f x)) false (signs p) after
spelled-fault {line} {text} {f} {first} {signed} {rest} {p} {after} x s e g = record { tokens = s.tokens; reads = Reads-fault x s.reads e g; leaves = Leaves-found s.leaves e }

pub spelled-whole : {line text : List ℕ} {first signed : Bool} {rest : List ℕ} → Spelled line text None first signed rest → nothing ≡ token_at signed rest → list_all is_allowed line ≡ true
    → (ts : List Token) × Spells line ts × IsSpelling line text
spelled-whole {line} {text} {first} {signed} {rest} s e a =
    let spells = Reads-tokens s.reads e a in
    (s.tokens, spells, (spells.texts, spells.lexes, Leaves-ends s.leaves e spells.texts spells.lexes))

pub spelled-faulty : {line text : List ℕ} {x : ValueFail} {first signed : Bool} {rest : List ℕ} → Spelled line text (Some x) first signed rest → nothing ≡ token_at signed rest → list_all is_allowed line ≡ true
    → Refuses line (line_fail x)
spelled-faulty {line} {text} {x} {first} {signed} {rest} s e a = Reads-faulty s.reads e a
