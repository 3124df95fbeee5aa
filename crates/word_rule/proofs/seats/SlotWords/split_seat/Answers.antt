use Rattle.std.proofs.Common.{length, sym, ap, ◌∙◌, arith}
use Rattle.dbp_plan.specs.declared.plan.Plan.{Plan}
use Rattle.word_rule.proofs.Begins.{splits}
use Rattle.word_rule.proofs.seats.SlotWords.split_seat.Goals as goal

pub split_seat-seat-requires : goal.split_seat-seat-requires
split_seat-seat-requires c =
    let self = c.args.self.now in
    let seat = c.args.seat.now in
    let tasks = ap (λ (x : Plan). length x.diagram.tasks) self.keyed in
    (c.requires.here.0, omega (arith, self.sized), splits self.table.shared.key _ seat.seat.me.0 seat.seat.me.1 seat.part (c.requires.here.1 ∙ sym self.keyed) seat.same (omega (arith, c.requires.next, c.requires.task)))
