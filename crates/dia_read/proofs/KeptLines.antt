-- What is kept of a line that was read.
use Rattle.std.proofs.Common.{◌≡◌, ◌≢◌, ℕ, ◌+◌, ◌*◌, ◌<◌, ◌≤◌, Some, true, List, [], ◌∷◌, ◌++◌, length, filter, reverse, refl, ap, subst, arith}
use Rattle.dia_tokens.specs.Pieces.{Piece}
use Rattle.dia_tokens.specs.Spelling.{joined}
use Rattle.dia_tokens.proofs.SpellingLaws.{joined-shorter, spelling-fits}
use Rattle.dia_tokens.specs.declared.token.Token.{Token}
use Rattle.dia_tokens.specs.Lexes.{Lexes}
use Rattle.dia_tokens.specs.Values.{HaveValues, none}
use Rattle.dia_tokens.proofs.LexLaws.{Lexes-one}
use Rattle.dia_lines.specs.declared.item.Part.{Part}
use Rattle.dia_lines.specs.declared.item.Line.{Line}
use Rattle.dia_lines.specs.declared.item.Line.TheVariants as line
use Rattle.dia_lines.specs.declared.place.Place.{Place}
use Rattle.dia_lines.specs.declared.place.Place.TheVariants.{Header, Body}
use Rattle.dia_lines.specs.Held.{IsPart, IsKept, IsHeld}
use Rattle.dia_lines.specs.Statements.{Statement, nothing, header, IsStatement, in_version_1, in_version_2}
use Rattle.dia_lines.specs.Places.{leads}
use Rattle.dia_lines.specs.Lines.{Content, says, row, step, place_after, statements, Reads, of_the_diagram, of_the_trace, of_the_script, an_empty_row, trace_ends, script_begins, a_row, no_step, script_ends, a_step}
use Rattle.dia_lines.specs.Limits.{is_task}
use Rattle.dia_lines.proofs.PlaceLaws.{part-stands}
use Rattle.dia_lines.proofs.TraceLaws.{row_is_line}
use Rattle.dia_read.specs.Documents.{Run, no_line, a_line, kept_text}
use Rattle.dia_read.specs.Drafts.{text_of_line}
use Rattle.dia_read.proofs.Bounds.{KeptFits}
use Rattle.dia_read.proofs.Once.{Once, tasks_before}

-- ---- runs

pub run-more : (before after : List Content) (lines : List (List ℕ)) (line : List ℕ) (said : Content) → Run before lines after → Reads after line said → Run before (lines ++ line ∷ []) (said ∷ after)
run-more before after lines line said (no_line b) r = a_line b (said ∷ b) line [] said r (no_line (said ∷ b))
run-more before after lines line said (a_line b a l ls s q run) r = a_line b (said ∷ a) l (ls ++ line ∷ []) s q (run-more (s ∷ b) a ls line said run r)

-- ---- what is kept of a line

pub no-row : (s : Statement) → IsKept s line.Row → ⊥
no-row nothing h = h
no-row s h = h

pub no-step : (s : Statement) (kept : List ℕ) → IsKept s (line.Step kept) → ⊥
no-step nothing kept h = h
no-step s kept h = h

pub kept-is : (before : List Content) (bytes : List ℕ) (said : Content) (l : Line) → Reads before bytes said → IsHeld said l → kept_text said ≡ text_of_line bytes l
kept-is before bytes (row t) line.Row (of_the_trace b s here i) h = row_is_line bytes t i
kept-is before bytes (row t) line.Row (of_the_script b s here i) h = elim i [ ]
kept-is before bytes (row t) l r h = absurd h
kept-is before bytes (step t) (line.Step kept) r h = h
kept-is before bytes (step t) l r h = absurd h
kept-is before bytes (says s) line.Row r h = absurd (no-row s h)
kept-is before bytes (says s) (line.Step kept) r h = absurd (no-step s kept h)
kept-is before bytes (says s) l r h = refl

-- what is kept of a line takes at most twice its room
pub kept-short : (before : List Content) (bytes : List ℕ) (said : Content) (l : Line) → Reads before bytes said → IsHeld said l → length (text_of_line bytes l) ≤ 2 * length bytes
kept-short before bytes said line.Row r h = omega arith
kept-short before bytes (step t) (line.Step kept) (of_the_script b s here (a_step c u ts e n o k)) h = subst (λ (x : List ℕ). length x ≤ 2 * length bytes) h (spelling-fits bytes t k)
kept-short before bytes (step t) (line.Step kept) (of_the_trace b s here i) h = elim i [ ]
kept-short before bytes (says s) (line.Step kept) r h = absurd (no-step s kept h)
kept-short before bytes (row t) (line.Step kept) r h = absurd h
kept-short before bytes said l r h = omega arith

-- so much is kept of a line of so many bytes, if more bytes than these or none at all were read
some-joined : (bytes : List ℕ) (ps : List Piece) (ts : List Token) (used : ℕ) → Lexes true bytes ps → HaveValues ps ts → ts ≢ [] → length bytes ≤ used → length (joined ps) + 1 ≤ 2 * used
some-joined bytes [] ts used d v n w = absurd (n (no-values ts v))
  where
    no-values : (ts : List Token) → HaveValues [] ts → ts ≡ []
    no-values [] none = refl
    no-values (t ∷ us) v = elim v [ ]
some-joined bytes (p ∷ ps) ts used d v n w = omega (arith, joined-shorter bytes p ps d)

pub kept-fits : (before : List Content) (bytes : List ℕ) (said : Content) (l : Line) (used : ℕ) → Reads before bytes said → IsHeld said l → length bytes ≤ used → 0 < used → KeptFits l (kept_text said) (2 * used)
kept-fits before bytes (row t) line.Row used (of_the_trace b s here i) h w p = omega (arith, ap length (row_is_line bytes t i))
kept-fits before bytes (row t) line.Row used (of_the_script b s here i) h w p = elim i [ ]
kept-fits before bytes (step t) (line.Step kept) used (of_the_script b s here (a_step c u ts e n o k)) h w p =
    let same : e.texts ≡ k.0 = Lexes-one true bytes e.texts k.0 e.lexes k.1 in
    rw k.2 (some-joined bytes k.0 ts used k.1 (subst (λ qs. HaveValues qs ts) same e.values) n w)
kept-fits before bytes (step t) (line.Step kept) used (of_the_trace b s here i) h w p = elim i [ ]
kept-fits before bytes (says s) line.Row used r h w p = absurd (no-row s h)
kept-fits before bytes (says s) (line.Step kept) used r h w p = absurd (no-step s kept h)
kept-fits before bytes (row t) (line.Step kept) used r h w p = absurd h
kept-fits before bytes (step t) line.Row used r h w p = absurd h
kept-fits before bytes x l used r h w p = tt

pub kept-part : (s : Statement) (p : Part) → IsKept s (line.Part p) → IsPart s p
kept-part nothing p h = h
kept-part s p h = h

-- a line of a body stands after a task
pub in-body : (before : List Content) (bytes : List ℕ) (said : Content) (p : Part) → Once (reverse before) (place_after before) → Reads before bytes said → IsHeld said (line.Part p)
    → 1 ≤ length (filter is_task (statements (reverse before)))
in-body before bytes (says s) p o (of_the_diagram b t e i) h =
    let here : place_after before ≡ Body = part-stands (place_after before) i.stands.next s p i.stands.stands (kept-part s p h) in
    subst (λ q. tasks_before q ≤ length (filter is_task (statements (reverse before)))) here o.task_line
in-body before bytes x p o (of_the_trace b t e (an_empty_row c i)) h = absurd h
in-body before bytes x p o (of_the_trace b t e (trace_ends c i)) h = absurd h
in-body before bytes x p o (of_the_trace b t e (script_begins c i)) h = absurd h
in-body before bytes x p o (of_the_trace b t e (a_row c i j)) h = absurd h
in-body before bytes x p o (of_the_script b t e (no_step c i)) h = absurd h
in-body before bytes x p o (of_the_script b t e (script_ends c i)) h = absurd h
in-body before bytes x p o (of_the_script b t e (a_step c u ts i n m k)) h = absurd h

-- the header may stand there
abbrev pub HeaderStands : List Content → Type 0
HeaderStands before = place_after before ≡ Header

-- the header stands first, and names version 1 or 2
header-place : (p q : Place) (s : Statement) (v : ℕ) → leads p s ≡ Some q → IsKept s (line.Header v) → p ≡ Header
header-place Header q s v e k = refl
header-place p q (header w) v e k = absurd cc
header-place p q s v e k = absurd k

header-version : (ts : List Token) (v : ℕ) → IsStatement ts (header v) → (1 ≤ v) × (v ≤ 2)
header-version ts v in_version_1 = (omega arith, omega arith)
header-version ts v in_version_2 = (omega arith, omega arith)

header-named : (ts : List Token) (s : Statement) (v : ℕ) → IsStatement ts s → IsKept s (line.Header v) → (1 ≤ v) × (v ≤ 2)
header-named ts (header w) v form k = subst (λ (n : ℕ). (1 ≤ n) × (n ≤ 2)) k (header-version ts w form)
header-named ts s v form k = absurd k

pub header-stands : (before : List Content) (bytes : List ℕ) (said : Content) (v : ℕ) → Reads before bytes said → IsHeld said (line.Header v) → HeaderStands before × (1 ≤ v) × (v ≤ 2)
header-stands before bytes (says s) v (of_the_diagram b t e i) h =
    let named = header-named i.tokens s v i.stands.form h in
    (header-place (place_after before) i.stands.next s v i.stands.stands h, named.0, named.1)
header-stands before bytes x v (of_the_trace b t e (an_empty_row c i)) h = absurd h
header-stands before bytes x v (of_the_trace b t e (trace_ends c i)) h = absurd h
header-stands before bytes x v (of_the_trace b t e (script_begins c i)) h = absurd h
header-stands before bytes x v (of_the_trace b t e (a_row c i j)) h = absurd h
header-stands before bytes x v (of_the_script b t e (no_step c i)) h = absurd h
header-stands before bytes x v (of_the_script b t e (script_ends c i)) h = absurd h
header-stands before bytes x v (of_the_script b t e (a_step c u ts i n m k)) h = absurd h
