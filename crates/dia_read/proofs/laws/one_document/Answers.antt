use Rattle.dia_read.proofs.DocumentLaws.{one-document}
use Rattle.dia_read.proofs.laws.one_document.Goals as goal

pub returns : goal.returns
returns c = one-document
