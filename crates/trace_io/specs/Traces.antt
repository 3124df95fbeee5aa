-- The plan of a document, or the first fault of its trace.
use Rattle.std.specs.Prelude.{◌≡◌, ℕ, nat_lt, if◌then◌else◌, List, [], ◌∷◌, ◌++◌, map, drop, slice_index_or, Option, Some, None}
use Rattle.dbp_plan.specs.declared.diagram.Diagram.{Diagram}
use Rattle.dbp_plan.specs.declared.limits.TheConstants.{MAX_OCCURRENCES}
use Rattle.dbp_plan.specs.declared.plan.Plan.{Plan}
use Rattle.dbp_plan.specs.declared.schedule.Sample.{Sample}
use Rattle.dbp_plan.specs.FirstFault.{first_fault}
use Rattle.dia_read.specs.declared.document.Doc.{Doc}
pub use Rattle.trace_rows.specs.declared.fail.TraceCode.{TraceCode}
pub use Rattle.trace_rows.specs.declared.fail.TraceCode.TheVariants.{BadHeader, BadRow, BadCell, TimeNotRising, TimePastEnd, TooManyOccurrences, TooManyRows}
pub use Rattle.trace_rows.specs.TraceCodes.{trace_code_name, trace_code_number}
pub use Rattle.trace_rows.specs.declared.fail.TraceFail.{TraceFail}
pub use Rattle.trace_rows.specs.declared.fail.TraceFail.TheVariants.{Refused, NoMemory}
use Rattle.trace_rows.specs.Headers.{is_header, kind_of_column}
use Rattle.trace_rows.specs.Records.{records_of, columns_in, rows_in}
use Rattle.trace_rows.specs.Rows.{row_faults}
use Rattle.trace_rows.specs.Values.{event_times, samples_of}
use Rattle.trace_io.specs.Batches.{AreBatches, total_of}

-- ---- what the trace says; a document without a trace section has an empty trace

-- the names of the columns after the times
abbrev pub columns_of : Doc → List (List ℕ)
columns_of doc = columns_in (records_of doc.body.trace)

abbrev pub rows_of : Doc → List (List (List ℕ))
rows_of doc = rows_in (records_of doc.body.trace)

-- the times of each event of the diagram
abbrev pub events_of : Doc → Diagram → List (List ℕ)
events_of doc d = event_times (columns_of doc) (rows_of doc) d.events

-- the values of the inputs of the diagram
abbrev pub given_samples : Doc → Diagram → List Sample
given_samples doc d = samples_of (columns_of doc) (rows_of doc) d.inputs

-- ---- its faults, by line

-- no record, or a first one that is no header
abbrev pub header_fault : Diagram → List (List (List ℕ)) → Option TraceCode
header_fault d [] = Some BadHeader
header_fault d (header ∷ rows) = if is_header d.inputs d.events header then None else Some BadHeader

-- the line of the first record; that which begins the section, if there is no record
abbrev pub header_line : Doc → List (List (List ℕ)) → ℕ
header_line doc [] = doc.lines.trace_at
header_line doc (header ∷ rows) = slice_index_or doc.lines.trace 0 0

-- if there is a section: its header's line, with the header's fault
abbrev pub header_faults : Doc → Diagram → Option (List ℕ) → List (ℕ × Option TraceCode)
header_faults doc d None = []
header_faults doc d (Some text) = let records = records_of (Some text) in (header_line doc records, header_fault d records) ∷ []

-- all tasks together occur more often than `MAX_OCCURRENCES`
abbrev pub occurrence_fault : Doc → Diagram → Option TraceCode
occurrence_fault doc d = if nat_lt MAX_OCCURRENCES (total_of d (given_samples doc d) (events_of doc d)) then Some TooManyOccurrences else None

-- the lines of the section, each with its first fault
abbrev pub section_faults : Doc → Diagram → List (ℕ × Option TraceCode)
section_faults doc d = header_faults doc d doc.body.trace ++ row_faults d.until (map (kind_of_column d.inputs) (columns_of doc)) (rows_of doc) (drop 1 doc.lines.trace)

-- the lines of the section, and at last that of `until`, if the occurrences are counted: each with its first fault
abbrev pub trace_faults : Doc → Diagram → List (ℕ × Option TraceCode)
trace_faults doc d = section_faults doc d ++ (doc.lines.until_at, occurrence_fault doc d) ∷ []

-- no line of the section has a fault, and these are the times of events and the samples that it gives
pub record IsTraceOf (doc : Doc) (d : Diagram) (events : List (List ℕ)) (samples : List Sample) : Type 0 where
  pub faultless : first_fault (section_faults doc d) ≡ None
  pub events_are : events ≡ events_of doc d
  pub samples_are : samples ≡ given_samples doc d

-- ---- the plan of a document with this diagram, or its first fault

-- the trace has no fault; the plan has this diagram, its samples are the values of the trace's rows, and each task occurs
-- at exactly those base times of its clock at which the input of its `when` isn't 0
pub record IsPlanOf (doc : Doc) (d : Diagram) (plan : Plan) : Type 0 where
  pub faultless : first_fault (trace_faults doc d) ≡ None
  pub diagram : plan.diagram ≡ d
  pub samples : plan.samples ≡ given_samples doc d
  pub batches : AreBatches d (given_samples doc d) (events_of doc d) plan.batches

-- the first fault is at this line, and it is this
abbrev pub IsTraceFault : Doc → Diagram → ℕ → TraceCode → Type 0
IsTraceFault doc d line code = first_fault (trace_faults doc d) ≡ Some (line, code)

-- what a refusal says; out of memory says nothing
abbrev pub IsTraceRefusal : Doc → Diagram → TraceFail → Type 0
IsTraceRefusal doc d (Refused line code) = IsTraceFault doc d line code
IsTraceRefusal doc d NoMemory = Unit {0}
