use Rattle.std.proofs.Common.{◌≡◌, None, arith, rules}
use Rattle.trace_rows.proofs.CellNumbers.{no-time, time-past, time-there}
use Rattle.trace_rows.proofs.cell.time_in.Goals as goal

pub returns-in_err-time : goal.returns-in_err-time
returns-in_err-time c =
    let none : c.from_residual.result ≡ None = search rules in
    rw none (no-time c.args.cell.now c.in_err-time.ensures)

pub returns-then-time : goal.returns-then-time
returns-then-time c = (time-there c.args.cell.now c.in_ok-time.time c.in_ok-time.ensures.0 c.in_ok-time.ensures.1 c.if-time.true, c.in_ok-time.ensures.1)

pub returns-else-time : goal.returns-else-time
returns-else-time c = time-past c.args.cell.now c.in_ok-time.time c.in_ok-time.ensures.0 c.in_ok-time.ensures.1 (omega arith)
