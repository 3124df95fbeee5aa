use Rattle.std.proofs.Common.{ap, arith}
use Rattle.dbp_slots.specs.declared.slot_counts.Counts.{Counts}
use Rattle.dbp_slots.proofs.Links.{delay_short}
use Rattle.slot_need.proofs.firings.group_size.Goals as goal

pub returns-clause-few : goal.returns-clause-few
returns-clause-few c =
    omega (arith, delay_short c.args.diagram.now c.args.task c.requires.ranked.closed, ap (λ (counts : Counts). counts.delayed) c.counts.ensures)
