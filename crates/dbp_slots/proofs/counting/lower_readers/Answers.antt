use Rattle.std.proofs.Common.{arith}
use Rattle.dbp_plan.proofs.RankLaws.{length-ranks}
use Rattle.dbp_slots.proofs.Links.{reader_ranked}
use Rattle.dbp_slots.proofs.counting.lower_readers.Goals as goal

pub bounds-ranks-task : goal.bounds-ranks-task
bounds-ranks-task c = grind (arith, length-ranks c.args.diagram.now c.requires.ranked)

pub bounds-ranks-link : goal.bounds-ranks-link
bounds-ranks-link c = grind (arith, reader_ranked c.args.diagram.now c.loop-link.link-index (record { writer = 0; reader = 0; delay = 0 }) c.requires.ranked)
