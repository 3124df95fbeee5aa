-- What a line of the trace section says, and its fault.
use Rattle.std.proofs.Common.{◌≡◌, ℕ, true, false, List, [], ◌∷◌, refl, sym, subst, ◌∙◌, arith, inl, inr}
use Rattle.std.specs.Prelude.{codes, if◌then◌else◌}
use Rattle.std.specs.List.{list_all}
use Rattle.std.specs.Str.{bytes_eq}
use Rattle.std.proofs.lemmas.Slice.Eq.{bytes_eq-Decides}
use Rattle.std.proofs.lemmas.List.Folds.{list_all-append}
use Rattle.std.proofs.lemmas.Bool.{and_parts, and_from, or_right, both_ways, false_from_ne_true}
use Rattle.std.proofs.lemmas.Bool.Decides.{nat_tests}
use Rattle.dia_tokens.specs.Kinds.{is_allowed}
use Rattle.dia_lines.specs.Statements.{nothing, script, done}
use Rattle.dia_lines.specs.Sections.{is_space, is_trace_byte, IsAlone}
use Rattle.dia_lines.specs.Trimmed.{trimmed}
use Rattle.dia_lines.specs.Lines.{Content, says, row, SaysInTrace, an_empty_row, trace_ends, script_begins, a_row}
use Rattle.dia_lines.proofs.TrimLaws.{trimmed-alone, alone-trimmed, trimmed-nil, nil-trimmed}

trimmed-done : (line : List ℕ) → IsAlone (codes "done") line → trimmed line ≡ codes "done"
trimmed-done line a = alone-trimmed (codes "done") line (omega arith) refl refl a

trimmed-script : (line : List ℕ) → IsAlone (codes "script") line → trimmed line ≡ codes "script"
trimmed-script line a = alone-trimmed (codes "script") line (omega arith) refl refl a

alone : (line text : List ℕ) → trimmed line ≡ text → IsAlone text line
alone line text e = subst (λ (t : List ℕ). IsAlone t line) e (trimmed-alone line)

-- ---- what a line says, from what stays without the spaces and tabs around it

pub says_nothing : (line : List ℕ) → trimmed line ≡ [] → SaysInTrace line (says nothing)
says_nothing line e = an_empty_row line (nil-trimmed line e)

pub says_done : (line : List ℕ) → trimmed line ≡ codes "done" → SaysInTrace line (says done)
says_done line e = trace_ends line (alone line (codes "done") e)

pub says_script : (line : List ℕ) → trimmed line ≡ codes "script" → SaysInTrace line (says script)
says_script line e = script_begins line (alone line (codes "script") e)

pub says_row : (line : List ℕ) → list_all is_trace_byte line ≡ true → (trimmed line ≡ [] → ⊥) → (trimmed line ≡ codes "done" → ⊥) → (trimmed line ≡ codes "script" → ⊥) → SaysInTrace line (row line)
says_row line h full no_end no_script =
    a_row line h (record {
      full = false_from_ne_true _ (λ y. full (trimmed-nil line y));
      inside = λ ends. elim ends [ inl a ↦ no_script (trimmed-script line a) | inr a ↦ no_end (trimmed-done line a) ];
    })

-- ---- a line says one thing at most

said_in_trace : List ℕ → Content
said_in_trace line =
    if bytes_eq (trimmed line) [] then says nothing else
    if bytes_eq (trimmed line) (codes "done") then says done else
    if bytes_eq (trimmed line) (codes "script") then says script else row line

differs : (text other : List ℕ) → (text ≡ other → ⊥) → bytes_eq text other ≡ false
differs text other ne = false_from_ne_true _ (λ y. ne ((bytes_eq-Decides text other).0 y))

says_what : (line : List ℕ) (a : Content) → SaysInTrace line a → a ≡ said_in_trace line
unfolding said_in_trace
says_what line a (an_empty_row l h) = rw (trimmed-nil l h) refl
says_what line a (trace_ends l h) = rw (trimmed-done l h) refl
says_what line a (script_begins l h) = rw (trimmed-script l h) refl
says_what line a (a_row l h kept) =
    rw (
      differs (trimmed l) [] (λ e. both_ways _ kept.full (nil-trimmed l e)),
      differs (trimmed l) (codes "done") (λ e. kept.inside (inr (alone l (codes "done") e))),
      differs (trimmed l) (codes "script") (λ e. kept.inside (inl (alone l (codes "script") e))),
    ) refl

pub one-in-trace : (line : List ℕ) (a b : Content) → SaysInTrace line a → SaysInTrace line b → a ≡ b
one-in-trace line a b h k = says_what line a h ∙ sym (says_what line b k)

-- a kept row is the line itself
pub row_is_line : (line text : List ℕ) → SaysInTrace line (row text) → text ≡ line
row_is_line line text (a_row l h kept) = refl

-- ---- a line with something to say has no fault

space_allowed : (b : ℕ) → is_space b ≡ true → is_trace_byte b ≡ true
space_allowed b h = or_right _ _ h

spaces_allowed : (bs : List ℕ) → list_all is_space bs ≡ true → list_all is_trace_byte bs ≡ true
spaces_allowed [] h = refl
spaces_allowed (b ∷ bs) h =
    let both = and_parts (is_space b) (list_all is_space bs) h in
    and_from _ _ (space_allowed b both.0) (spaces_allowed bs both.1)

alone_allowed : (text line : List ℕ) → list_all is_trace_byte text ≡ true → IsAlone text line → list_all is_trace_byte line ≡ true
alone_allowed text line h a =
    rw (a.4, list_all-append, list_all-append)
    (and_from _ _ (and_from _ _ (spaces_allowed a.0 a.2) h) (spaces_allowed a.1 a.3))

pub all_allowed : (line : List ℕ) (a : Content) → SaysInTrace line a → list_all is_trace_byte line ≡ true
all_allowed line a (an_empty_row l h) = spaces_allowed l h
all_allowed line a (trace_ends l h) = alone_allowed (codes "done") l refl h
all_allowed line a (script_begins l h) = alone_allowed (codes "script") l refl h
all_allowed line a (a_row l h kept) = h

byte_allowed : (b : ℕ) → is_trace_byte b ≡ true → is_allowed b ≡ true
byte_allowed b e = grind (arith, nat_tests)

-- a byte that may stand in the trace section may stand in any line
pub trace_allowed : (line : List ℕ) → list_all is_trace_byte line ≡ true → list_all is_allowed line ≡ true
trace_allowed [] h = refl
trace_allowed (b ∷ bs) h =
    let both = and_parts (is_trace_byte b) (list_all is_trace_byte bs) h in
    and_from _ _ (byte_allowed b both.0) (trace_allowed bs both.1)

pub no-fault-in-trace : (line : List ℕ) (a : Content) → SaysInTrace line a → list_all is_trace_byte line ≡ false → ⊥
no-fault-in-trace line a s h = both_ways _ h (all_allowed line a s)
