use Rattle.std.proofs.Common.{arith}
use Rattle.dbp_slots.specs.Slots.{is_to_lower, is_to_higher}
use Rattle.dbp_slots.proofs.Links.{links_few, delay_short}
use Rattle.dbp_slots.proofs.counting.counts.Goals as goal

pub overflow_add-result-2 : goal.overflow_add-result-2
overflow_add-result-2 c =
    let d = c.args.diagram.now in
    omega (
      arith,
      links_few d (is_to_lower d.ranks c.args.task) c.requires.ranked.closed,
      links_few d (is_to_higher d.ranks c.args.task) c.requires.ranked.closed,
      delay_short d c.args.task c.requires.ranked.closed,
    )

pub overflow_add-result-5 : goal.overflow_add-result-5
overflow_add-result-5 c =
    let d = c.args.diagram.now in
    omega (
      arith,
      links_few d (is_to_lower d.ranks c.args.task) c.requires.ranked.closed,
      links_few d (is_to_higher d.ranks c.args.task) c.requires.ranked.closed,
      delay_short d c.args.task c.requires.ranked.closed,
    )
