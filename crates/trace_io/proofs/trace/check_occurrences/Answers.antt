use Rattle.std.proofs.Common.{arith}
use Rattle.trace_io.proofs.trace.check_occurrences.Goals as goal

pub returns-clause-few : goal.returns-clause-few
returns-clause-few c = λ samples its. omega (arith, c.total.ensures samples its, c.if-total-from.false, c.from.ensures)

pub returns-then-total-from-clause-many : goal.returns-then-total-from-clause-many
returns-then-total-from-clause-many c = λ samples its. omega (arith, c.total.ensures samples its, c.if-total-from.true, c.from.ensures)
