-- What the trace of a document gives to its clocks and inputs, if no line has a fault.
use Rattle.std.proofs.Common.{◌≡◌, ℕ, ◌<◌, ◌≤◌, All, AllPairs, List, length, map, drop, None, sym, ap, ◌∙◌, subst, arith}
use Rattle.std.specs.Prelude.{IsTrue}
use Rattle.std.specs.List.Sorted.{IsStrictlyIncreasing}
use Rattle.std.proofs.lemmas.List.{length-drop}
use Rattle.dbp_plan.specs.declared.diagram.Diagram.{Diagram}
use Rattle.dbp_plan.specs.declared.schedule.Sample.{Sample}
use Rattle.dbp_plan.specs.Ranked.{IsRanked}
use Rattle.dbp_plan.specs.Samples.{is_before}
use Rattle.dbp_plan.specs.FirstFault.{first_fault}
use Rattle.dia_read.specs.declared.document.Doc.{Doc}
use Rattle.dia_read.specs.Printable.{IsPrintable, HasItemLines}
use Rattle.dbp_plan.proofs.FirstFaults.{append-none}
use Rattle.trace_rows.specs.Records.{records_of}
use Rattle.trace_rows.specs.Headers.{kind_of_column}
use Rattle.trace_rows.specs.Rows.{row_faults}
use Rattle.trace_rows.proofs.Timetable.{event-times-count, event-times-rise, event-times-end, samples-rise, samples-named}
use Rattle.trace_io.specs.Counts.{IsTimetable}
use Rattle.trace_io.specs.Traces.{columns_of, rows_of, header_faults, IsTraceOf}
use Rattle.trace_io.proofs.TraceLines.{record-lines}

module _ (doc : Doc) (d : Diagram) (events : List (List ℕ)) (samples : List Sample) (trace : IsTraceOf doc d events samples) where
  pub events-count : length events ≡ length d.events
  events-count = ap (λ (ts : List (List ℕ)). length ts) trace.events_are ∙ event-times-count (columns_of doc) (rows_of doc) d.events

  pub named-samples : All (λ s. s.input < length d.inputs) samples
  named-samples = subst (All (λ s. s.input < length d.inputs)) (sym trace.samples_are) (samples-named (columns_of doc) (rows_of doc) d.inputs)

  module _ (printable : IsPrintable doc.body) (items : HasItemLines doc) where
    lines-there : length (rows_of doc) ≤ length (drop 1 doc.lines.trace)
    lines-there = omega (arith, record-lines doc printable items, length-drop 1 doc.lines.trace, length-drop 1 (records_of doc.body.trace))

    rows-faultless : first_fault (row_faults d.until (map (kind_of_column d.inputs) (columns_of doc)) (rows_of doc) (drop 1 doc.lines.trace)) ≡ None
    rows-faultless = (append-none (header_faults doc d doc.body.trace) (row_faults d.until (map (kind_of_column d.inputs) (columns_of doc)) (rows_of doc) (drop 1 doc.lines.trace)) trace.faultless).1

    pub timetable : IsRanked d → IsTimetable d.until events
    timetable ranked = record {
      last = ranked.closed.until;
      rising = subst (All IsStrictlyIncreasing) (sym trace.events_are) (event-times-rise d.until (map (kind_of_column d.inputs) (columns_of doc)) (columns_of doc) (rows_of doc) (drop 1 doc.lines.trace) d.events lines-there rows-faultless);
      ends = subst (All (All (λ t. t < d.until))) (sym trace.events_are) (event-times-end d.until (map (kind_of_column d.inputs) (columns_of doc)) (columns_of doc) (rows_of doc) (drop 1 doc.lines.trace) d.events lines-there rows-faultless);
    }

    pub rising-samples : AllPairs (λ a b. IsTrue (is_before a b)) samples
    rising-samples = subst (AllPairs (λ a b. IsTrue (is_before a b))) (sym trace.samples_are) (samples-rise d.until (map (kind_of_column d.inputs) (columns_of doc)) (columns_of doc) (rows_of doc) (drop 1 doc.lines.trace) d.inputs lines-there rows-faultless)
