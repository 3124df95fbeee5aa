use Rattle.dia_lines.proofs.LineLaws.{one-reading}
use Rattle.dia_lines.proofs.laws.one_reading.Goals as goal

pub returns : goal.returns
returns c = one-reading
