-- Which document a text is, and the first fault of a text that is none.
use Rattle.std.specs.Prelude.{◌≡◌, ◌≢◌, ℕ, ℤ, pos, ◌+◌, ◌||◌, Bool, true, false, List, [], ◌∷◌, ◌++◌, length, filter, reverse, take, slice_get, get_or, Option, Some, None, if◌then◌else◌}
use Rattle.std.specs.List.{list_any, list_all}
use Rattle.dbp_plan.specs.declared.diagram.Policy.{Policy}
use Rattle.dia_tokens.specs.Blanks.{is_blank_line}
use Rattle.dia_read.specs.declared.document.Body.{Body}
use Rattle.dia_read.specs.declared.document.Doc.{Doc}
use Rattle.dia_read.specs.declared.document.DocLines.{DocLines}
use Rattle.dia_read.specs.declared.document.RawTask.{RawTask}
use Rattle.dia_lines.specs.declared.item.TaskLine.{TaskLine}
use Rattle.dia_lines.specs.declared.place.Place.TheVariants.{Ended}
use Rattle.dia_lines.specs.declared.fault.ReadCode.{ReadCode}
use Rattle.dia_lines.specs.declared.fault.ReadCode.TheVariants.{MissingDone, MissingHeader}
use Rattle.dia_lines.specs.Statements.{Statement, header, policy, until, trace, script, done}
use Rattle.dia_lines.specs.Places.{is_body, is_declaration}
use Rattle.dia_lines.specs.Limits.{is_task}
use Rattle.dia_lines.specs.Lines.{Content, says, row, step, Reads, HasFault, place_after, statements}
use Rattle.dia_lines.specs.Held.{IsDecl, IsTaskLine, IsPart}
use Rattle.dia_lines.specs.Text.{lines_of}

-- Read after those before them, the lines are without fault; the result is what all lines say. Both lists have the latest line first.
pub data Run : List Content → List (List ℕ) → List Content → Type 0 where
  no_line : (before : List Content) → Run before [] before
  a_line : (before after : List Content) (line : List ℕ) (lines : List (List ℕ)) (said : Content) → Reads before line said → Run (said ∷ before) lines after
      → Run before (line ∷ lines) after

-- ---- what the lines say together

-- the versions that statements name
abbrev pub versions : List Statement → List ℕ
versions [] = []
versions (header version ∷ ss) = version ∷ versions ss
versions (_ ∷ ss) = versions ss

-- the policies that statements name
abbrev pub policies : List Statement → List Policy
policies [] = []
policies (policy p ∷ ss) = p ∷ policies ss
policies (_ ∷ ss) = policies ss

-- the ends of time that statements name
abbrev pub ends : List Statement → List ℤ
ends [] = []
ends (until end ∷ ss) = end ∷ ends ss
ends (_ ∷ ss) = ends ss

-- each item of the one list fits that of the other
pub data Fit {A B : Type 0} (Is : A → B → Type 0) : List A → List B → Type 0 where
  none : Fit Is [] []
  another : (a : A) (b : B) (xs : List A) (ys : List B) → Is a b → Fit Is xs ys → Fit Is (a ∷ xs) (b ∷ ys)

-- the line that begins a task
abbrev pub first_line : RawTask → TaskLine
first_line t = record { name = t.name; clock = t.clock; when = t.when; prio = t.prio; deadline = t.deadline; cost = t.cost; cpu = t.cpu }

-- task lines, each with the lines of its body after it, are the tasks
pub data AreTasks : List Statement → List RawTask → Type 0 where
  no_task : AreTasks [] []
  a_task : (s : Statement) (body rest : List Statement) (t : RawTask) (ts : List RawTask) → IsTaskLine s (first_line t) → Fit IsPart body t.parts
      → AreTasks rest ts → AreTasks (s ∷ (body ++ rest)) (t ∷ ts)

-- the line belongs to a task: its first line, or one of its body
abbrev pub is_of_task : Statement → Bool
is_of_task s = is_task s || is_body s

abbrev pub is_trace : Statement → Bool
is_trace trace = true
is_trace _ = false

abbrev pub is_script : Statement → Bool
is_script script = true
is_script _ = false

abbrev pub is_until : Statement → Bool
is_until (until n) = true
is_until _ = false

abbrev pub is_done : Statement → Bool
is_done done = true
is_done _ = false

abbrev pub is_statement_of : (Statement → Bool) → Content → Bool
is_statement_of kind (says s) = kind s
is_statement_of kind _ = false

abbrev pub is_row : Content → Bool
is_row (row text) = true
is_row _ = false

abbrev pub is_step : Content → Bool
is_step (step text) = true
is_step _ = false

abbrev pub kept_text : Content → List ℕ
kept_text (row text) = text
kept_text (step text) = text
kept_text (says s) = []

-- the numbers of the lines of a kind, if the first line has this number
abbrev pub lines_from : ℕ → (Content → Bool) → List Content → List ℕ
lines_from number kind [] = []
lines_from number kind (line ∷ lines) = if kind line then number ∷ lines_from (number + 1) kind lines else lines_from (number + 1) kind lines

-- the numbers of the lines of a kind, from 1
abbrev pub lines_with : (Content → Bool) → List Content → List ℕ
lines_with kind lines = lines_from 1 kind lines

-- the kept lines of a section, each ended by a line feed
abbrev pub kept : (Content → Bool) → List Content → List ℕ
kept kind [] = []
kept kind (line ∷ lines) = if kind line then kept_text line ++ 10 ∷ kept kind lines else kept kind lines

-- a section is there if the line that begins it is
abbrev pub section : (Statement → Bool) → (Content → Bool) → List Content → Option (List ℕ)
section begins kind lines = if list_any (is_statement_of begins) lines then Some (kept kind lines) else None

-- what the lines say together
pub record IsBody (lines : List Content) (body : Body) : Type 0 where
  pub header_line : versions (statements lines) ≡ body.version ∷ []
  pub policy_line : policies (statements lines) ≡ body.policy ∷ []
  pub until_line : ends (statements lines) ≡ pos body.until ∷ []
  pub decls : Fit IsDecl (filter is_declaration (statements lines)) body.decls
  pub tasks : AreTasks (filter is_of_task (statements lines)) body.tasks
  pub traced : body.trace ≡ section is_trace is_row lines
  pub scripted : body.script ≡ section is_script is_step lines

-- the numbers of the lines of a document's items
pub record AreItemLines (lines : List Content) (numbers : DocLines) : Type 0 where
  pub until_line : lines_with (is_statement_of is_until) lines ≡ numbers.until_at ∷ []
  pub done_line : lines_with (is_statement_of is_done) lines ≡ numbers.done_at ∷ []
  pub trace_line : get_or (lines_with (is_statement_of is_trace) lines) 0 0 ≡ numbers.trace_at
  pub decl_lines : lines_with (is_statement_of is_declaration) lines ≡ numbers.decls
  pub task_lines : lines_with (is_statement_of is_task) lines ≡ numbers.tasks
  pub part_lines : lines_with (is_statement_of is_body) lines ≡ numbers.parts
  pub row_lines : lines_with is_row lines ≡ numbers.trace
  pub step_lines : lines_with is_step lines ≡ numbers.script

-- The text spells the document: its lines are without fault and come to an end, and this is what they say.
pub record Spells (bytes : List ℕ) (doc : Doc) : Type 0 where
  pub said : List Content
  pub run : Run [] (lines_of bytes) said
  pub ended : place_after said ≡ Ended
  pub body : IsBody (reverse said) doc.body
  pub lines : AreItemLines (reverse said) doc.lines

-- ---- the first fault of a text

-- The line at the index is the first with a fault, and this is its first one.
pub record IsFirstLine (lines : List (List ℕ)) (index : ℕ) (code : ReadCode) : Type 0 where
  pub line : List ℕ
  pub stands : slice_get lines index ≡ Some line
  pub before : List Content
  pub run : Run [] (take index lines) before
  pub fault : HasFault before line code

-- no line has tokens
abbrev pub is_blank_text : List ℕ → Bool
is_blank_text bytes = list_all is_blank_line (lines_of bytes)

-- The text's first fault, and the number of its line. A text without any line with tokens lacks its header at line 1, even
-- if a later comment has a byte that isn't allowed; such a byte in line 1 itself comes first.
pub data IsFirstFault (bytes : List ℕ) : ℕ → ReadCode → Type 0 where
  at_a_line : (index : ℕ) (code : ReadCode) → is_blank_text bytes ≡ false → IsFirstLine (lines_of bytes) index code
      → IsFirstFault bytes (index + 1) code
  in_the_first_line : (code : ReadCode) → is_blank_text bytes ≡ true → IsFirstLine (lines_of bytes) 0 code → IsFirstFault bytes 1 code
  no_header : is_blank_text bytes ≡ true → ((code : ReadCode) → IsFirstLine (lines_of bytes) 0 code → ⊥) → IsFirstFault bytes 1 MissingHeader
  no_end : (said : List Content) → is_blank_text bytes ≡ false → Run [] (lines_of bytes) said → place_after said ≢ Ended
      → IsFirstFault bytes (length (lines_of bytes) + 1) MissingDone

-- ---- bodies that say the same in another way

-- the body with this version and this script in place of its own
abbrev pub with_rest : ℕ → Option (List ℕ) → Body → Body
with_rest version text body = record body { version = version; script = text }

-- the body in version 2
abbrev pub upgraded : Body → Body
upgraded body = record body { version = 2 }
