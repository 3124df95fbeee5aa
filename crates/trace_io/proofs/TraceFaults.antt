-- The first fault of a trace, by what its section has.
use Rattle.std.proofs.Common.{◌≡◌, ℕ, ◌+◌, ◌<◌, ◌≤◌, true, false, List, [], ◌∷◌, length, map, drop, Some, None, refl, sym, ap, ◌∙◌, arith}
use Rattle.std.specs.Prelude.{nat_lt, ◌==◌, filter, slice_index_or, sum_by, replicate}
use Rattle.std.proofs.lemmas.Bool.{both_ways}
use Rattle.std.proofs.lemmas.Bool.Decides.{nat_tests}
use Rattle.dbp_plan.specs.declared.diagram.Diagram.{Diagram}
use Rattle.dbp_plan.specs.declared.diagram.Task.{Task}
use Rattle.dbp_plan.specs.Clocks.{is_on}
use Rattle.std.proofs.lemmas.List.Sums.{sum_by-cons}
use Rattle.dbp_plan.specs.declared.limits.TheConstants.{MAX_OCCURRENCES}
use Rattle.dbp_plan.specs.declared.schedule.Sample.{Sample}
use Rattle.dbp_plan.specs.FirstFault.{first_fault}
use Rattle.dbp_plan.proofs.FirstFaults.{first-append, first-front}
use Rattle.dia_lines.specs.Text.{lines_of}
use Rattle.dia_lines.proofs.TextLaws.{lines_of-nil}
use Rattle.dia_read.specs.declared.document.Doc.{Doc}
use Rattle.trace_rows.specs.declared.fail.TraceCode.{TraceCode}
use Rattle.trace_rows.specs.declared.fail.TraceFail.{TraceFail}
use Rattle.trace_rows.specs.declared.fail.TraceFail.TheVariants.{Refused, NoMemory}
use Rattle.trace_rows.specs.declared.fail.TraceCode.TheVariants.{BadHeader, TooManyOccurrences}
use Rattle.trace_rows.specs.Headers.{is_header, kind_of_column}
use Rattle.trace_rows.specs.Records.{cells_of, records_of}
use Rattle.trace_rows.specs.Rows.{row_faults}
use Rattle.trace_rows.specs.Values.{event_times, samples_of}
use Rattle.trace_io.specs.Batches.{times_in, total_of}
use Rattle.trace_io.specs.Traces.{columns_of, rows_of, events_of, given_samples, section_faults, trace_faults, occurrence_fault, IsTraceOf, IsTraceFault, IsTraceRefusal}
use Rattle.trace_io.proofs.Counting.{no-times}

-- a fault of the section is one of the trace
pub trace-fault : (doc : Doc) (d : Diagram) (line : ℕ) (code : TraceCode) → first_fault (section_faults doc d) ≡ Some (line, code) → IsTraceFault doc d line code
trace-fault doc d line code is = first-front (section_faults doc d) ((doc.lines.until_at, occurrence_fault doc d) ∷ []) (line, code) is

-- the section has no record
pub no-record : (doc : Doc) (d : Diagram) (text : List ℕ) → doc.body.trace ≡ Some text → records_of (Some text) ≡ [] → first_fault (section_faults doc d) ≡ Some (doc.lines.trace_at, BadHeader)
no-record doc d text is none = rw (is, none) refl

module _ (doc : Doc) (d : Diagram) (text : List ℕ) (header : List (List ℕ)) (rows : List (List (List ℕ))) (is : doc.body.trace ≡ Some text) (some : records_of (Some text) ≡ header ∷ rows) where
  pub bad-header : is_header d.inputs d.events header ≡ false → first_fault (section_faults doc d) ≡ Some (slice_index_or doc.lines.trace 0 0, BadHeader)
  bad-header bad = rw (is, some, bad) refl

  pub columns-are : columns_of doc ≡ drop 1 header
  columns-are = rw (is, some) refl

  pub rows-are : rows_of doc ≡ rows
  rows-are = rw (is, some) refl

  pub rows-decide : is_header d.inputs d.events header ≡ true
      → first_fault (section_faults doc d) ≡ first_fault (row_faults d.until (map (kind_of_column d.inputs) (drop 1 header)) rows (drop 1 doc.lines.trace))
  rows-decide good = rw (is, some, good) refl

  -- the rows have a first fault
  pub rows-refused : is_header d.inputs d.events header ≡ true → (fail : TraceFail)
      → ((line : ℕ) (code : TraceCode) → fail ≡ Refused line code → first_fault (row_faults d.until (map (kind_of_column d.inputs) (drop 1 header)) rows (drop 1 doc.lines.trace)) ≡ Some (line, code))
      → IsTraceRefusal doc d fail
  rows-refused good (Refused line code) fault = trace-fault doc d line code (rows-decide good ∙ fault line code refl)
  rows-refused good NoMemory fault = tt

  -- no line has a fault, and these are what the rows give
  pub whole-section : is_header d.inputs d.events header ≡ true → first_fault (row_faults d.until (map (kind_of_column d.inputs) (drop 1 header)) rows (drop 1 doc.lines.trace)) ≡ None
      → (events : List (List ℕ)) (samples : List Sample) → events ≡ event_times (drop 1 header) rows d.events → samples ≡ samples_of (drop 1 header) rows d.inputs → IsTraceOf doc d events samples
  whole-section good faultless events samples events_are samples_are = record {
    faultless = rows-decide good ∙ faultless;
    events_are = events_are ∙ sym (λ i. event_times (columns-are i) (rows-are i) d.events);
    samples_are = samples_are ∙ sym (λ i. samples_of (columns-are i) (rows-are i) d.inputs);
  }

no-marks : (names : List (List ℕ)) → event_times [] [] names ≡ replicate (length names) []
no-marks [] = refl
no-marks (name ∷ names) = ap (λ (ts : List (List ℕ)). [] ∷ ts) (no-marks names)

-- there is no section
pub no-section : (doc : Doc) (d : Diagram) (events : List (List ℕ)) (samples : List Sample) → doc.body.trace ≡ None → events ≡ replicate (length d.events) [] → samples ≡ [] → IsTraceOf doc d events samples
no-section doc d events samples none events_are samples_are = record {
  faultless = rw none refl;
  events_are = events_are ∙ rw none (sym (no-marks d.events));
  samples_are = samples_are ∙ rw none refl;
}

-- the events of no section
no-events : (doc : Doc) (d : Diagram) → doc.body.trace ≡ None → events_of doc d ≡ replicate (length d.events) []
no-events doc d none = rw none (no-marks d.events)

-- and its samples
no-samples : (doc : Doc) (d : Diagram) → doc.body.trace ≡ None → given_samples doc d ≡ []
no-samples doc d none = rw none refl

-- what is counted of no section
pub empty-total : (doc : Doc) (d : Diagram) → doc.body.trace ≡ None → total_of d (given_samples doc d) (events_of doc d) ≡ total_of d [] []
empty-total doc d none =
    (λ j. total_of d (no-samples doc d none j) (no-events doc d none j)) ∙ same d.tasks
  where
    same : (tasks : List Task) → sum_by (λ t. length (times_in d [] (replicate (length d.events) []) t)) tasks ≡ sum_by (λ t. length (times_in d [] [] t)) tasks
    same [] = refl
    same (t ∷ tasks) =
        let first : length (times_in d [] (replicate (length d.events) []) t) ≡ length (times_in d [] [] t) =
        ap (λ (ts : List ℕ). length (filter (is_on d.inputs [] t.when) ts)) (no-times d.until (length d.events) t.clock) in
        sum_by-cons (λ (u : Task). length (times_in d [] (replicate (length d.events) []) u)) t tasks ∙ (λ j. first j + same tasks j)
        ∙ sym (sum_by-cons (λ (u : Task). length (times_in d [] [] u)) t tasks)

-- no line of the section has a fault, and the tasks occur too often
pub too-many : (doc : Doc) (d : Diagram) → first_fault (section_faults doc d) ≡ None → MAX_OCCURRENCES < total_of d (given_samples doc d) (events_of doc d) → IsTraceFault doc d doc.lines.until_at TooManyOccurrences
too-many doc d faultless many = first-append (section_faults doc d) ((doc.lines.until_at, occurrence_fault doc d) ∷ []) faultless ∙ go
  where
    go : first_fault ((doc.lines.until_at, occurrence_fault doc d) ∷ []) ≡ Some (doc.lines.until_at, TooManyOccurrences)
    go = let test : nat_lt MAX_OCCURRENCES (total_of d (given_samples doc d) (events_of doc d)) ≡ true = grind (arith, nat_tests) in rw test refl

-- no line of the section has a fault, and the tasks don't occur too often
pub no-fault : (doc : Doc) (d : Diagram) → first_fault (section_faults doc d) ≡ None → total_of d (given_samples doc d) (events_of doc d) ≤ MAX_OCCURRENCES → first_fault (trace_faults doc d) ≡ None
no-fault doc d faultless few = first-append (section_faults doc d) ((doc.lines.until_at, occurrence_fault doc d) ∷ []) faultless ∙ go
  where
    go : first_fault ((doc.lines.until_at, occurrence_fault doc d) ∷ []) ≡ None
    go = let test : nat_lt MAX_OCCURRENCES (total_of d (given_samples doc d) (events_of doc d)) ≡ false = grind (arith, nat_tests) in rw test refl

pub too-many-at : (doc : Doc) (d : Diagram) (line : ℕ) (code : TraceCode) → line ≡ doc.lines.until_at → code ≡ TooManyOccurrences → first_fault (section_faults doc d) ≡ None
    → MAX_OCCURRENCES < total_of d (given_samples doc d) (events_of doc d) → IsTraceFault doc d line code
too-many-at doc d line code line_is code_is faultless many =
    let fault : IsTraceFault doc d doc.lines.until_at TooManyOccurrences = too-many doc d faultless many in
    rw (line_is, code_is) fault

-- there is no section, and the tasks occur too often
pub empty-refused : (doc : Doc) (d : Diagram) (line : ℕ) (code : TraceCode) → line ≡ doc.lines.until_at → code ≡ TooManyOccurrences → doc.body.trace ≡ None
    → MAX_OCCURRENCES < total_of d [] [] → IsTraceFault doc d line code
empty-refused doc d line code line_is code_is none many =
    let faultless : first_fault (section_faults doc d) ≡ None = rw none refl in
    too-many-at doc d line code line_is code_is faultless (omega (arith, empty-total doc d none, many))

pub some-bytes : (text : List ℕ) → (length text == 0) ≡ false → text ≡ [] → ⊥
some-bytes text some empty = both_ways (length text == 0) some (rw empty refl)

-- the section keeps no line
pub no-line : (doc : Doc) (d : Diagram) (text : List ℕ) → doc.body.trace ≡ Some text → text ≡ [] → IsTraceFault doc d doc.lines.trace_at BadHeader
no-line doc d text is empty =
    trace-fault doc d doc.lines.trace_at BadHeader (no-record doc d text is (ap (λ t. map cells_of (lines_of t)) empty ∙ ap (map cells_of) lines_of-nil))
