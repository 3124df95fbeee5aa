use Rattle.std.proofs.Common.{length, ℕ, ap, arith}
use Rattle.dbp_plan.proofs.RankLaws.{length-ranks}
use Rattle.rank_order.proofs.key.key_of.Goals as goal

pub bounds-items-task : goal.bounds-items-task
bounds-items-task c = omega (arith, c.requires.task, length-ranks c.args.diagram.now c.requires.ranked, ap (length {A = ℕ}) c.items.ensures.value)
