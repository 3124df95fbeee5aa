use Rattle.std.proofs.Common.{ap, arith, length}
use Rattle.dbp_load.specs.Bodies.{read_name}
use Rattle.dbp_load.proofs.ListedItems.{length-listed}
use Rattle.dbp_load.proofs.reads.names_of_reads.Goals as goal

pub push-requires : goal.push-requires
push-requires c = omega (arith, ap length c.loop-read.invariant, length-listed read_name c.loop-read.read, c.early_count-read-end.ensures)

pub push-requires-2 : goal.push-requires-2
push-requires-2 c = omega (arith, ap length c.loop-read.invariant, length-listed read_name c.loop-read.read, c.early_count-read-end.ensures)
