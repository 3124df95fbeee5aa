use Rattle.std.proofs.Common.{refl}
use Rattle.dia_read.specs.declared.document.Doc.{Doc}
use Rattle.dia_read.specs.Canonical.{canonical_text}
use Rattle.dia_read.specs.Documents.{upgraded}
use Rattle.trace_io.proofs.laws.an_upgraded_text_is_accepted.Goals as goal

pub returns : goal.returns
returns c text plan accepted =
    let body = accepted.doc.body in
    let printable = c.an_upgraded_body_can_be_printed.ensures body (c.a_document_can_be_printed.ensures text accepted.doc accepted.spelled) in
    let spelled = c.canonical_text_spells.ensures (upgraded body) printable in
    let upgraded_doc : Doc = record { body = upgraded body; lines = spelled.lines } in
    (c.another_version_or_script_is_accepted.ensures text (canonical_text (upgraded body)) plan accepted upgraded_doc spelled.spelled refl).0
