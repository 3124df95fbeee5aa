use Rattle.dia_read.proofs.SpelledDocuments.{printable-document}
use Rattle.dia_read.proofs.laws.a_document_can_be_printed.Goals as goal

pub returns : goal.returns
returns c = printable-document
