use Rattle.std.proofs.Common.{length}
use Rattle.trace_io.proofs.Counting.{base-count}
use Rattle.trace_io.proofs.Merges.{in-range}
use Rattle.trace_io.proofs.laws.count_is_exact.Goals as goal

pub returns : goal.returns
returns c until events clock is = base-count until events clock (in-range (length events) clock is)
