use Rattle.std.proofs.Common.{arith}
use Rattle.dbp_plan.proofs.Listed.{place_of}
use Rattle.expr_eval.proofs.cycle.first_used.Goals as goal

pub returns : goal.returns
returns c = λ j among used.
    let at = place_of c.args.found.now j among in
    c.loop-place.invariant at.0 j (omega (arith, at.1)) at.2 used
