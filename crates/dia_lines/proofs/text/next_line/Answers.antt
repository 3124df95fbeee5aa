use Rattle.dia_lines.proofs.TextLaws.{lines_of-first}
use Rattle.dia_lines.proofs.text.next_line.Goals as goal

pub returns-clause-value : goal.returns-clause-value
returns-clause-value c = lines_of-first c.args.bytes.now c.split_line.result.0.now c.split_line.result.1.now c.requires c.split_line.ensures.value
