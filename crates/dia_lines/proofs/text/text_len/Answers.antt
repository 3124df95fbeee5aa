use Rattle.dia_lines.proofs.TextLaws.{first-end}
use Rattle.dia_lines.proofs.text.text_len.Goals as goal

pub returns-clause-value : goal.returns-clause-value
returns-clause-value c = rw c.unwrap_or.ensures (first-end c.args.bytes.now c.memchr.result c.memchr.ensures)
