use Rattle.dia_read.proofs.Outcomes.{only-read, only-again, only-refused}
use Rattle.dia_read.proofs.read.read_doc.Goals as goal

pub returns-clause-only : goal.returns-clause-only
returns-clause-only c = only-read c.args.bytes.now c.read_text.result c.read_text.ensures.found c.read_text.ensures.fault

pub returns-clause-refused : goal.returns-clause-refused
returns-clause-refused c = only-refused c.args.bytes.now c.read_text.result c.read_text.ensures.found c.read_text.ensures.fault

pub returns-clause-again : goal.returns-clause-again
returns-clause-again c = only-again c.args.bytes.now c.read_text.result c.read_text.ensures.found c.read_text.ensures.fault
