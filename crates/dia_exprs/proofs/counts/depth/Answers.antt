use Rattle.std.proofs.Common.{rules}
use Rattle.dia_exprs.proofs.Depths.{counted}
use Rattle.dia_exprs.proofs.counts.depth.Goals as goal

pub loop-token-preserved : goal.loop-token-preserved
loop-token-preserved c = record {
  so_far = counted c.args.tokens.now c.loop-token.token-index c.loop-token.open c.loop-token.most c.opened-open.result c.max-most.result c.token-item.result c.loop-token.invariant c.loop-token-test.true c.token-item.is c.opened-open.ensures (search rules) (search rules) (search rules);
  within = search rules;
  few = search rules;
}
