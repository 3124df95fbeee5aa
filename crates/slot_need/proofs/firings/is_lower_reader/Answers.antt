use Rattle.std.proofs.Common.{arith}
use Rattle.dbp_plan.proofs.RankLaws.{length-ranks}
use Rattle.slot_need.proofs.firings.is_lower_reader.Goals as goal

pub bounds-ranks-task : goal.bounds-ranks-task
bounds-ranks-task c = grind (arith, length-ranks c.args.diagram.now c.requires.ranked)

pub bounds-ranks-other : goal.bounds-ranks-other
bounds-ranks-other c = grind (arith, length-ranks c.args.diagram.now c.requires.ranked)
