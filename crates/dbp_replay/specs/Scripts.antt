-- The steps of a document's script, or its first fault.
use Rattle.std.specs.Prelude.{◌≡◌, ℕ, List, take, slice_get, Some, None, Result, Ok, Err}
use Rattle.dbp_rules.specs.declared.step.Step.{Step}
use Rattle.dbp_plan.specs.declared.diagram.Diagram.{Diagram}
use Rattle.dia_lines.specs.Text.{lines_of}
use Rattle.dia_read.specs.declared.document.Doc.{Doc}
use Rattle.dia_read.specs.Documents.{Fit}
use Rattle.dia_tokens.specs.declared.token.Token.{Token}
use Rattle.dia_tokens.specs.Line.{Spells}
use Rattle.dbp_replay.specs.StepForms.{step_of}
use Rattle.dbp_replay.specs.declared.fail.ScriptCode.{ScriptCode}
use Rattle.dbp_replay.specs.declared.fail.ScriptCode.TheVariants.{NoScript}
use Rattle.dbp_replay.specs.declared.fail.ScriptFail.{ScriptFail}
use Rattle.dbp_replay.specs.declared.fail.ScriptFail.TheVariants as fail

-- what the line's tokens say: a step, or a fault
pub record Says (d : Diagram) (line : List ℕ) (said : Result Step ScriptCode) : Type 0 where
  pub tokens : List Token
  pub spelled : Spells line tokens
  pub says : step_of d tokens ≡ said

-- the lines name these steps, one each, in order
abbrev pub Name : Diagram → List (List ℕ) → List Step → Type 0
Name d lines steps = Fit (λ line e. Says d line (Ok e)) lines steps

-- of the lines, which have these numbers, that with the number `at` is the first with a fault, and it has this one
pub record IsFirstFault (d : Diagram) (lines : List (List ℕ)) (numbers : List ℕ) (at : ℕ) (code : ScriptCode) : Type 0 where
  pub index : ℕ
  pub before : List Step
  pub named : Name d (take index lines) before
  pub line : List ℕ
  pub stands : slice_get lines index ≡ Some line
  pub fault : Says d line (Err code)
  pub number : slice_get numbers index ≡ Some at

-- the document has a script section, whose kept lines name the steps
pub record IsScript (d : Diagram) (doc : Doc) (steps : List Step) : Type 0 where
  pub text : List ℕ
  pub section : doc.body.script ≡ Some text
  pub named : Name d (lines_of text) steps

-- the first fault of a document's script, and the number of its line: a document without a section has it at `done`
pub data IsScriptFault (d : Diagram) (doc : Doc) : ℕ → ScriptCode → Type 0 where
  no_section : doc.body.script ≡ None → IsScriptFault d doc doc.lines.done_at NoScript
  at_a_line : (text : List ℕ) (at : ℕ) (code : ScriptCode) → doc.body.script ≡ Some text → IsFirstFault d (lines_of text) doc.lines.script at code
      → IsScriptFault d doc at code

-- what a refusal says; out of memory says nothing
abbrev pub IsScriptRefusal : Diagram → Doc → ScriptFail → Type 0
IsScriptRefusal d doc (fail.Refused at code) = IsScriptFault d doc at code
IsScriptRefusal d doc fail.NoMemory = Unit {0}
