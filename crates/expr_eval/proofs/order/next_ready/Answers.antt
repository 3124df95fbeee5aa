use Rattle.std.proofs.Common.{Contains, below_more}
use Rattle.expr_eval.specs.LetOrders.{Waits}
use Rattle.expr_eval.proofs.order.next_ready.Goals as goal

pub loop-i-preserved : goal.loop-i-preserved
loop-i-preserved c =
    below_more (λ k. (Contains c.args.placed.now k → ⊥) → Waits c.args.base c.args.lets.now c.args.placed.now k) c.loop-i.i c.loop-i.invariant c.if-is_candidate.ensures
