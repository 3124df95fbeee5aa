-- Documents with a trace section in plain form.
use Rattle.std.specs.Prelude.{◌≡◌, ℕ, List, Some, map}
use Rattle.dbp_plan.specs.declared.diagram.Diagram.{Diagram}
use Rattle.dia_read.specs.declared.document.Doc.{Doc}
use Rattle.trace_rows.specs.Written.{CanWrite, WrittenRow, written_section, written_times}

-- the section is these columns and rows in plain form, and they can be written for the diagram
pub record HasWrittenTrace (doc : Doc) (d : Diagram) (columns : List (List ℕ)) (rows : List WrittenRow) : Type 0 where
  pub section : doc.body.trace ≡ Some (written_section columns rows)
  pub can : CanWrite d.until d.inputs d.events columns rows

-- the times that were written, of each event of the diagram
abbrev pub written_events : Diagram → List (List ℕ) → List WrittenRow → List (List ℕ)
written_events d columns rows = map (written_times columns rows) d.events
