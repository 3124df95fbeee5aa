-- What becomes of a document whose tasks are ranked by its links.
use Rattle.std.specs.Prelude.{◌≡◌, ℕ, List}
use Rattle.dbp_plan.specs.Ranking.{IsByRank}
use Rattle.dbp_plan.specs.declared.plan.Plan.{Plan}
use Rattle.dia_check.specs.Checks.{IsCheckFault}
use Rattle.dia_check.specs.Faults.{IsShapeFault}
use Rattle.dia_check.specs.Shapes.{IsShapeOf}
use Rattle.dia_check.specs.declared.fail.CheckCode.{CheckCode}
use Rattle.dia_check.specs.declared.shaped.Shaped.{Shaped}
use Rattle.dia_lines.specs.declared.fault.ReadCode.{ReadCode}
use Rattle.dia_read.specs.Canonical.{canonical_text}
use Rattle.dia_read.specs.Documents.{IsFirstFault, Spells}
use Rattle.dia_read.specs.declared.document.Doc.{Doc}
use Rattle.rank_find.specs.Bodies.{ranked_body}
use Rattle.rank_find.specs.Finds.{AreNamesOfFirstCycle}
use Rattle.rank_find.specs.Orders.{IsOrder}
use Rattle.sync_meaning.specs.SomeMeaning.{meaning_of}
use Rattle.trace_io.specs.declared.code.Code.TheVariants.{Reading, Checking, Tracing}
use Rattle.trace_io.specs.Texts.{Accepts}
use Rattle.trace_io.specs.Traces.{IsTraceFault, TraceCode}
use Rattle.dbp_answers.specs.declared.command_code.CommandCode.TheVariants.{Cycle}
use Rattle.dbp_answers.specs.declared.refusal.Refusal.{Refusal}
use Rattle.dbp_answers.specs.declared.refusal.Refusal.TheVariants.{Document, OfCommand}

-- the document has no fault of names and shape, and its tasks have this order
pub record HasOrder (doc : Doc) (order : List ℕ) : Type 0 where
  pub shaped : Shaped
  pub shape : IsShapeOf doc shaped
  pub is : IsOrder shaped.diagram order

-- the canonical text of the input's document with priorities by the order of its tasks: it is accepted with a plan in which
-- they are ranked by that order, and if the input is accepted, its plan means the same
pub record IsRankedText (input text : List ℕ) : Type 0 where
  pub doc : Doc
  pub order : List ℕ
  pub plan : Plan
  pub spelled : Spells input doc
  pub ordered : HasOrder doc order
  pub written : text ≡ canonical_text (ranked_body doc.body order)
  pub accepted : Accepts text plan
  pub by_order : IsByRank plan.diagram.ranks order
  pub same : (before : Plan) → Accepts input before → meaning_of before ≡ meaning_of plan

-- why an input has no such text: the first fault of reading, or else of names and shape, or else a cycle of direct links, or
-- else the first fault of the trace
pub data RankRefusal (input : List ℕ) : Refusal → Type 0 where
  not_read : (line : ℕ) (code : ReadCode) → IsFirstFault input line code → RankRefusal input (Document line (Reading code))
  no_shape : (doc : Doc) (line : ℕ) (code : CheckCode) → Spells input doc → IsShapeFault doc line code → RankRefusal input (Document line (Checking code))
  no_order : (doc : Doc) (shaped : Shaped) (names : List (List ℕ)) → Spells input doc → IsShapeOf doc shaped → AreNamesOfFirstCycle shaped.diagram names
      → RankRefusal input (OfCommand (Cycle names))
  no_trace : (doc : Doc) (order : List ℕ) (ordered : HasOrder doc order) (line : ℕ) (code : TraceCode) → Spells input doc → IsTraceFault doc ordered.shaped.diagram line code
      → RankRefusal input (Document line (Tracing code))

-- the document has no fault of names, shape or ranks
abbrev pub HasNoCheckFault : Doc → Type 0
HasNoCheckFault doc = (line : ℕ) (code : CheckCode) → IsCheckFault doc line code → ⊥
