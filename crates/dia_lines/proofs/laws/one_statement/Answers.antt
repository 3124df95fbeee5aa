use Rattle.dia_lines.proofs.FormLaws.{one-statement}
use Rattle.dia_lines.proofs.laws.one_statement.Goals as goal

pub returns : goal.returns
returns c = one-statement
