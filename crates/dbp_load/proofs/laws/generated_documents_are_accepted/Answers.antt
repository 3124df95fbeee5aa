use Rattle.dia_read.specs.Canonical.{canonical_text}
use Rattle.dia_read.specs.declared.document.Doc.{Doc}
use Rattle.dbp_load.specs.Bodies.{generated_body, trace_row}
use Rattle.dbp_load.specs.Listed.{first_items}
use Rattle.dbp_load.proofs.Acceptance.{checked, diagram, few-occurrences, written}
use Rattle.dbp_load.proofs.GeneratedBodies.{printable}
use Rattle.dbp_load.proofs.GeneratedTraces.{the_columns}
use Rattle.dbp_load.proofs.laws.generated_documents_are_accepted.Goals as goal

pub returns : goal.returns
returns c seed size fits some few =
    let body = generated_body seed size in
    let prints = printable seed size some few in
    let spells = c.canonical_text_spells.ensures body prints in
    let doc : Doc = record { body = body; lines = spells.lines } in
    let items = c.each_item_has_a_line.ensures (canonical_text body) doc spells.spelled in
    let is_checked = checked seed size some few spells.lines in
    let (plan, planned) =
    c.a_written_trace_makes_a_plan.ensures.plan doc (diagram seed size some few spells.lines) the_columns (first_items (trace_row size) 10) (written seed size some few spells.lines) prints items is_checked
    (few-occurrences seed size some few spells.lines) in
    (plan, record { doc = doc; diagram = diagram seed size some few spells.lines; spelled = spells.spelled; checked = is_checked; planned = planned })
