use Rattle.dia_lines.proofs.LineLaws.{no-line-fault, one-line-fault}
use Rattle.dia_lines.proofs.laws.one_line_fault.Goals as goal

pub returns-clause-none : goal.returns-clause-none
returns-clause-none c = no-line-fault

pub returns-clause-one : goal.returns-clause-one
returns-clause-one c = one-line-fault
