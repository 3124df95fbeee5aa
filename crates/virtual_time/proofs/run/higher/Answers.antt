use Rattle.std.proofs.Common.{arith, length, ap}
use Rattle.dbp_plan.proofs.RankLaws.{length-ranks}
use Rattle.virtual_time.proofs.run.higher.Goals as goal

pub bounds-ranks-other : goal.bounds-ranks-other
bounds-ranks-other c = omega (arith, ap length c.items-ranks.ensures.value, length-ranks c.args.plan.now.diagram c.args.plan.now.rules.ranked, c.requires.worst)

pub bounds-ranks-task : goal.bounds-ranks-task
bounds-ranks-task c = omega (arith, ap length c.items-ranks.ensures.value, length-ranks c.args.plan.now.diagram c.args.plan.now.rules.ranked, c.requires.task)
