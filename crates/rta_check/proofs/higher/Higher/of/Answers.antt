use Rattle.std.proofs.Common.{◌≡◌, ℕ, ◌*◌, ◌/◌, ◌≤◌, ap, arith}
use Rattle.std.proofs.Math.Nat.{div-mul-le_self}
use Rattle.rta_check.specs.Levels.{whole}
use Rattle.rta_check.specs.Periods.{period_of}
use Rattle.rta_check.proofs.Demands.{clock_of}
use Rattle.rta_check.proofs.Starts.{whole-is}
use Rattle.rta_check.proofs.higher.Higher.of.Goals as goal

rounded : (a b cost period : ℕ) → a ≡ cost → b ≡ period → a * 18446744073709551616 / b * period ≤ cost * whole
rounded a b cost period same divisor =
    rw (same, divisor) (omega (arith, div-mul-le_self (cost * 18446744073709551616) period, ap (λ n. cost * n) whole-is))

pub returns-clause-higher : goal.returns-clause-higher
returns-clause-higher c =
    let t = c.args.task.now in
    let (inputs, events, links, closed) = c.requires.closed in
    let (offset, clock) = clock_of t.clock c.requires.periodic in
    let (some, within, early) = closed.periodic (period_of t.clock) offset clock in
    let period = c.period_of-period.ensures in
    record {
      period = (omega (arith, some, period), omega (arith, within, period));
      cost = closed.cost.1;
      utilization = rounded c.from.result c.from-2.result t.cost c.period_of-period.result c.from.ensures c.from-2.ensures;
    }
