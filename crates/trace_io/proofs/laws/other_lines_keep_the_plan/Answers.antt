use Rattle.trace_io.proofs.OtherLines.{planned-again}
use Rattle.trace_io.proofs.laws.other_lines_keep_the_plan.Goals as goal

pub returns : goal.returns
returns c = planned-again
