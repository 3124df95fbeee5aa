use Rattle.std.proofs.Common.{ap, arith, length}
use Rattle.std.proofs.lemmas.List.{length-append}
use Rattle.dbp_load.specs.Bodies.{early_read}
use Rattle.dbp_load.specs.Listed.{first_items}
use Rattle.dbp_load.proofs.ListedItems.{length-listed}
use Rattle.dbp_load.proofs.reads.push_early_reads.Goals as goal

pub push-requires : goal.push-requires
push-requires c =
    let reads = early_read c.args.draws.now c.args.number in
    omega (arith, ap length c.loop-read.invariant.parts, length-append c.args.parts.now (first_items reads c.loop-read.read), length-listed reads c.loop-read.read, c.early_count-read-end.ensures, c.requires.room)
