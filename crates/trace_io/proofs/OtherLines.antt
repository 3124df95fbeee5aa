-- A document with the same trace section has the same plan, whatever its lines.
use Rattle.std.proofs.Common.{◌≡◌, ℕ, ◌≤◌, List, [], ◌∷◌, length, map, drop, Option, Some, None, refl, sym, ◌∙◌, subst, arith}
use Rattle.std.specs.Prelude.{IfSome}
use Rattle.std.proofs.lemmas.List.{length-drop}
use Rattle.dbp_plan.specs.declared.diagram.Diagram.{Diagram}
use Rattle.dbp_plan.specs.declared.plan.Plan.{Plan}
use Rattle.dbp_plan.specs.FirstFault.{first_fault}
use Rattle.dbp_plan.proofs.FirstFaults.{append-none, cons-none, first-append}
use Rattle.dia_lines.specs.Lines.{row, SaysInTrace}
use Rattle.dia_read.specs.declared.document.Doc.{Doc}
use Rattle.dia_read.specs.Printable.{HasItemLines, KeepsItself}
use Rattle.dia_check.proofs.Faultless.{items-faultless, items-fine}
use Rattle.trace_rows.specs.Headers.{kind_of_column}
use Rattle.trace_rows.specs.Records.{records_of}
use Rattle.trace_rows.specs.Rows.{fault_after, row_faults}
use Rattle.trace_io.specs.Traces.{columns_of, rows_of, header_line, header_fault, header_faults, occurrence_fault, section_faults, trace_faults, IsPlanOf}
use Rattle.trace_io.proofs.TraceLines.{record-count}

-- the document with this trace section in place of its own
abbrev with_trace : Doc → Option (List ℕ) → Doc
with_trace doc trace = record { body = record doc.body { trace = trace }; lines = doc.lines }

module _ (doc other : Doc) (d : Diagram) where
  abbrev alike : Doc
  alike = with_trace other doc.body.trace

  header-again : (trace : Option (List ℕ)) → first_fault (header_faults doc d trace) ≡ None → first_fault (header_faults alike d trace) ≡ None
  header-again None none = refl
  header-again (Some text) none =
      let records = records_of (Some text) in
      let fault : header_fault d records ≡ None = (cons-none (header_line doc records) (header_fault d records) [] none).0 in
      rw fault refl

  section-again : length (rows_of doc) ≤ length (drop 1 doc.lines.trace) → first_fault (section_faults doc d) ≡ None → first_fault (section_faults alike d) ≡ None
  section-again few none =
      let kinds = map (kind_of_column d.inputs) (columns_of doc) in
      let fault = fault_after d.until kinds in
      let both = append-none (header_faults doc d doc.body.trace) (row_faults d.until kinds (rows_of doc) (drop 1 doc.lines.trace)) none in
      first-append (header_faults alike d doc.body.trace) (row_faults d.until kinds (rows_of doc) (drop 1 other.lines.trace)) (header-again doc.body.trace both.0)
      ∙ items-fine fault [] (rows_of doc) (drop 1 other.lines.trace) (items-faultless fault [] (rows_of doc) (drop 1 doc.lines.trace) few both.1)

  faults-again : length (rows_of doc) ≤ length (drop 1 doc.lines.trace) → first_fault (trace_faults doc d) ≡ None → first_fault (trace_faults alike d) ≡ None
  faults-again few none =
      let both = append-none (section_faults doc d) ((doc.lines.until_at, occurrence_fault doc d) ∷ []) none in
      let fault : occurrence_fault alike d ≡ None = (cons-none doc.lines.until_at (occurrence_fault doc d) [] both.1).0 in
      first-append (section_faults alike d) ((other.lines.until_at, occurrence_fault alike d) ∷ []) (section-again few both.0) ∙ rw fault refl

  -- each row has a line
  row-lines : IfSome doc.body.trace (KeepsItself SaysInTrace row) → HasItemLines doc → length (rows_of doc) ≤ length (drop 1 doc.lines.trace)
  row-lines kept items =
      let records = records_of doc.body.trace in
      let count : length records ≡ length doc.lines.trace = record-count doc.body.trace kept ∙ sym items.trace in
      omega (arith, count, length-drop 1 records, length-drop 1 doc.lines.trace)

  pub planned-again : (plan : Plan) → other.body.trace ≡ doc.body.trace → IfSome doc.body.trace (KeepsItself SaysInTrace row) → HasItemLines doc → IsPlanOf doc d plan → IsPlanOf other d plan
  planned-again plan same kept items is = subst (λ trace. IsPlanOf (with_trace other trace) d plan) (sym same)
      (record { faultless = faults-again (row-lines kept items) is.faultless; diagram = is.diagram; samples = is.samples; batches = is.batches })
