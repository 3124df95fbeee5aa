-- Which texts are accepted, with which plan, and which are refused, with which fault.
use Rattle.std.specs.Prelude.{◌≡◌, ℕ, List}
use Rattle.dbp_plan.specs.declared.diagram.Diagram.{Diagram}
use Rattle.dbp_plan.specs.declared.plan.Plan.{Plan}
use Rattle.dia_check.specs.declared.fail.CheckCode.{CheckCode}
use Rattle.dia_check.specs.Checks.{IsCheckedOf, IsCheckFault}
use Rattle.dia_check.specs.Faults as checking
use Rattle.dia_lines.specs.declared.fault.ReadCode.{ReadCode}
use Rattle.dia_read.specs.declared.document.Doc.{Doc}
use Rattle.dia_read.specs.Documents.{Spells, IsFirstFault}
use Rattle.trace_rows.specs.declared.fail.TraceCode.{TraceCode}
use Rattle.trace_io.specs.declared.code.Code.{Code}
use Rattle.trace_io.specs.declared.code.Code.TheVariants.{Reading, Checking, Tracing}
use Rattle.trace_io.specs.Traces.{IsPlanOf, IsTraceFault}

-- the text spells a document without a fault of names, shape, ranks or trace, and this is its plan
pub record Accepts (text : List ℕ) (plan : Plan) : Type 0 where
  pub doc : Doc
  pub diagram : Diagram
  pub spelled : Spells text doc
  pub checked : IsCheckedOf doc diagram
  pub planned : IsPlanOf doc diagram plan

-- the text's first fault: of reading, or else of names and shape, or else of ranks, or else of the trace
pub data Refuses (text : List ℕ) : ℕ → Code → Type 0 where
  of_reading : (line : ℕ) (code : ReadCode) → IsFirstFault text line code → Refuses text line (Reading code)
  of_checking : (doc : Doc) (line : ℕ) (code : CheckCode) → Spells text doc → IsCheckFault doc line code → Refuses text line (Checking code)
  of_the_trace : (doc : Doc) (d : Diagram) (line : ℕ) (code : TraceCode) → Spells text doc → IsCheckedOf doc d → IsTraceFault doc d line code → Refuses text line (Tracing code)

-- the same code, except for the names of a cycle
abbrev pub IsSameCode : Code → Code → Type 0
IsSameCode (Reading a) (Reading b) = a ≡ b
IsSameCode (Checking a) (Checking b) = checking.IsSameCode a b
IsSameCode (Tracing a) (Tracing b) = a ≡ b
IsSameCode a b = ⊥
