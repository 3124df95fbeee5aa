-- A checked document with a written trace has a plan, if its tasks don't occur too often.
use Rattle.std.proofs.Common.{◌≡◌, ℕ, ◌≤◌, All, List, ◌∷◌, length, map, drop, Some, None, refl, sym, subst, ◌∙◌}
use Rattle.std.specs.Prelude.{codes}
use Rattle.dbp_plan.specs.declared.diagram.Diagram.{Diagram}
use Rattle.dbp_plan.specs.declared.diagram.Task.{Task}
use Rattle.dbp_plan.specs.declared.limits.TheConstants.{MAX_OCCURRENCES}
use Rattle.dbp_plan.specs.declared.plan.Plan.{Plan}
use Rattle.dbp_plan.specs.FirstFault.{first_fault}
use Rattle.dia_read.specs.declared.document.Doc.{Doc}
use Rattle.dia_read.specs.Printable.{HasItemLines, IsPrintable}
use Rattle.dia_check.specs.Checks.{IsCheckedOf}
use Rattle.dia_check.proofs.CheckedRanks.{checked-ranked}
use Rattle.trace_rows.specs.declared.cell.Kind.{Kind}
use Rattle.trace_rows.specs.Headers.{kind_of_column}
use Rattle.trace_rows.specs.Records.{records_of}
use Rattle.trace_rows.specs.Values.{event_times, samples_of}
use Rattle.trace_rows.specs.Written.{WrittenRow, written_cells, written_samples, written_section}
use Rattle.trace_rows.proofs.WrittenRows.{each-row, event-times-are, header-is, rows-faultless, samples-are}
use Rattle.trace_rows.proofs.WrittenText.{IsRow, section-records}
use Rattle.trace_io.specs.Batches.{total_of}
use Rattle.trace_io.specs.Counts.{IsClockOf}
use Rattle.trace_io.specs.Traces.{IsPlanOf, IsTraceOf, columns_of, events_of, given_samples, rows_of, section_faults}
use Rattle.trace_io.specs.WrittenTraces.{HasWrittenTrace, written_events}
use Rattle.trace_io.proofs.Plans.{clocks_fit, plan_from}
use Rattle.trace_io.proofs.TaskBatches.{task-batches}
use Rattle.trace_io.proofs.Timetables.{events-count, named-samples, rising-samples, timetable}
use Rattle.trace_io.proofs.TraceFaults.{columns-are, no-fault, rows-are, rows-decide}

-- no line of the section has a fault, and the tasks don't occur too often
pub faultless-plan : (doc : Doc) (d : Diagram) → IsPrintable doc.body → HasItemLines doc → IsCheckedOf doc d → first_fault (section_faults doc d) ≡ None
    → total_of d (given_samples doc d) (events_of doc d) ≤ MAX_OCCURRENCES → (plan : Plan) × IsPlanOf doc d plan
faultless-plan doc d printable items checked faultless few =
    let events = events_of doc d in
    let samples = given_samples doc d in
    let ranked = checked-ranked doc d printable items checked in
    let trace : IsTraceOf doc d events samples = record { faultless = faultless; events_are = refl; samples_are = refl } in
    let clocks : All (λ t. IsClockOf (length events) t.clock) d.tasks = subst (λ n. All (λ (t : Task). IsClockOf n t.clock) d.tasks) (sym (events-count doc d events samples trace)) (clocks_fit d ranked.closed) in
    let (batches, are) = task-batches d samples events (timetable doc d events samples trace printable items ranked) clocks few in (
      record {
        diagram = d;
        samples = samples;
        batches = batches;
        rules = plan_from d events samples batches ranked are (rising-samples doc d events samples trace printable items) (named-samples doc d events samples trace);
      },
      record { faultless = no-fault doc d faultless few; diagram = refl; samples = refl; batches = are },
    )

module _ (doc : Doc) (d : Diagram) (columns : List (List ℕ)) (rows : List WrittenRow) (trace : HasWrittenTrace doc d columns rows) where
  abbrev text : List ℕ
  text = written_section columns rows

  abbrev kinds : List Kind
  kinds = map (kind_of_column d.inputs) columns

  each : All (IsRow kinds) rows
  each = each-row d.until d.inputs d.events columns rows trace.can

  records : records_of (Some text) ≡ (codes "time" ∷ columns) ∷ map written_cells rows
  records = section-records kinds columns rows trace.can.names each

  columns-written : columns_of doc ≡ columns
  columns-written = columns-are doc d text (codes "time" ∷ columns) (map written_cells rows) trace.section records

  rows-written : rows_of doc ≡ map written_cells rows
  rows-written = rows-are doc d text (codes "time" ∷ columns) (map written_cells rows) trace.section records

  pub events-written : events_of doc d ≡ written_events d columns rows
  events-written = (λ i. event_times (columns-written i) (rows-written i) d.events) ∙ event-times-are d.inputs columns d.events rows trace.can.apart each

  pub samples-written : given_samples doc d ≡ written_samples columns rows d.inputs
  samples-written = (λ i. samples_of (columns-written i) (rows-written i) d.inputs) ∙ samples-are d.inputs columns rows each

  pub written-plan : IsPrintable doc.body → HasItemLines doc → IsCheckedOf doc d
      → total_of d (written_samples columns rows d.inputs) (written_events d columns rows) ≤ MAX_OCCURRENCES → (plan : Plan) × IsPlanOf doc d plan
  written-plan printable items checked few =
      let good = header-is d.until d.inputs d.events columns rows trace.can in
      faultless-plan doc d printable items checked
      (rows-decide doc d text (codes "time" ∷ columns) (map written_cells rows) trace.section records good ∙ rows-faultless d.until d.inputs d.events columns rows trace.can (drop 1 doc.lines.trace))
      (rw (samples-written, events-written) few)
