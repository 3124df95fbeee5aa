-- Which bodies can be printed, and documents with a line of each item.
use Rattle.std.specs.Prelude.{◌≡◌, ℕ, ◌≤◌, ◌==◌, Bool, true, false, All, List, [], ◌∷◌, ◌++◌, length, count_by, sum_by, Option, Some, None}
use Rattle.std.specs.Option.{IfSome}
use Rattle.dbp_plan.specs.declared.limits.TheConstants.{MAX_TASKS, MAX_INPUTS, MAX_EVENTS, MAX_READS, MAX_READ_LINES, MAX_OUTS, MAX_BODY, MAX_TIME}
use Rattle.dia_lines.specs.declared.item.Decl.{Decl}
use Rattle.dia_lines.specs.declared.item.Decl.TheVariants.{Input, Event}
use Rattle.dia_lines.specs.declared.item.Part.{Part}
use Rattle.dia_lines.specs.declared.item.Part.TheVariants as part
use Rattle.dia_lines.specs.Lines.{Content, row, step, SaysInTrace, SaysInScript}
pub use Rattle.dia_print.specs.Printable.{IsPrintableExpr, IsPrintableDecl, IsPrintableClock, IsPrintablePart, IsPrintableTaskLine}
use Rattle.dia_read.specs.Documents.{first_line}
use Rattle.dia_read.specs.declared.document.Body.{Body}
use Rattle.dia_read.specs.declared.document.Doc.{Doc}
use Rattle.dia_read.specs.declared.document.RawTask.{RawTask}

abbrev pub is_input_decl : Decl → Bool
is_input_decl (Input n v) = true
is_input_decl _ = false

abbrev pub is_event_decl : Decl → Bool
is_event_decl (Event n) = true
is_event_decl _ = false

abbrev pub is_read_part : Part → Bool
is_read_part (part.Read n d w p a) = true
is_read_part _ = false

abbrev pub is_out_part : Part → Bool
is_out_part (part.Out n v e) = true
is_out_part _ = false

pub record IsPrintableTask (t : RawTask) : Type 0 where
  pub line : IsPrintableTaskLine (first_line t)
  pub parts : All IsPrintablePart t.parts
  pub body : length t.parts ≤ MAX_BODY
  pub reads : count_by is_read_part t.parts ≤ MAX_READS
  pub outs : count_by is_out_part t.parts ≤ MAX_OUTS

-- these lines as one text, each ended by a line feed
abbrev pub ended_lines : List (List ℕ) → List ℕ
ended_lines [] = []
ended_lines (line ∷ lines) = line ++ 10 ∷ ended_lines lines

-- the text is lines, each ended by a line feed, and each says itself as one that is kept in its section
abbrev pub KeepsItself : (List ℕ → Content → Type 0) → (List ℕ → Content) → List ℕ → Type 0
KeepsItself Says kept text = (lines : List (List ℕ)) × (text ≡ ended_lines lines) × All (λ line. Says line (kept line)) lines

-- the task has neither a `when` nor a processor other than 0, as all tasks of version 1
abbrev pub IsPlainTask : RawTask → Type 0
IsPlainTask t = (t.when ≡ None) × (t.cpu ≡ 0)

-- The body keeps the limits that reading tries, its names are no keywords, its values have 64 bits, and its sections
-- have lines that are kept.
pub record IsPrintable (body : Body) : Type 0 where
  pub version : (1 ≤ body.version) × (body.version ≤ 2)
  pub plain : body.version ≡ 1 → All IsPlainTask body.tasks
  pub until : body.until ≤ MAX_TIME
  pub decls : All IsPrintableDecl body.decls
  pub inputs : count_by is_input_decl body.decls ≤ MAX_INPUTS
  pub events : count_by is_event_decl body.decls ≤ MAX_EVENTS
  pub tasks : All IsPrintableTask body.tasks
  pub few : length body.tasks ≤ MAX_TASKS
  pub links : sum_by (λ t. count_by is_read_part t.parts) body.tasks ≤ MAX_READ_LINES
  pub trace : IfSome body.trace (KeepsItself SaysInTrace row)
  pub script : IfSome body.script (KeepsItself SaysInScript step)

-- how many lines a section keeps
abbrev pub line_count : Option (List ℕ) → ℕ
line_count None = 0
line_count (Some text) = count_by (λ b. b == 10) text

-- there is a line of each item
pub record HasItemLines (doc : Doc) : Type 0 where
  pub decls : length doc.lines.decls ≡ length doc.body.decls
  pub tasks : length doc.lines.tasks ≡ length doc.body.tasks
  pub parts : length doc.lines.parts ≡ sum_by (λ t. length t.parts) doc.body.tasks
  pub trace : length doc.lines.trace ≡ line_count doc.body.trace
  pub script : length doc.lines.script ≡ line_count doc.body.script
