use Rattle.std.proofs.Common.{arith, below_more}
use Rattle.expr_eval.specs.LetOrders.{LiesOnCycle, IsCycleFrom}
use Rattle.expr_eval.proofs.Searches.{absent}
use Rattle.expr_eval.proofs.cycle.first_cycle.Goals as goal

pub cycle_from-requires-clause-all : goal.cycle_from-requires-clause-all
cycle_from-requires-clause-all c = rw c.items.ensures.value c.in_ok-found.ensures.all

pub loop-i-preserved : goal.loop-i-preserved
loop-i-preserved c =
    below_more (λ k. LiesOnCycle c.args.base c.args.lets.now k → ⊥) c.loop-i.i c.loop-i.invariant
    (absent (LiesOnCycle c.args.base c.args.lets.now c.loop-i.i → ⊥) (IsCycleFrom c.args.base c.args.lets.now c.loop-i.i) c.in_ok-cycle.cycle c.if-is_some.ensures c.in_ok-cycle.ensures)

pub returns : goal.returns
returns c = λ i below. c.loop-i.invariant i (omega arith)
