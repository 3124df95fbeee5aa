use Rattle.std.proofs.Common.{◌+◌, ◌-◌, ◌<◌, length, subst, arith}
use Rattle.dbp_rules.specs.Lookups.{wired_task}
use Rattle.dbp_rules.specs.Shapes.{PlaceIn}
use Rattle.dbp_rules.specs.declared.parts.Place.{Place}
use Rattle.word_rule.proofs.TaskCalls.{in_layout, link_in_layout}
use Rattle.word_rule.proofs.seats.SlotWords.order_address.Goals as goal

pub claim-requires : goal.claim-requires
claim-requires c =
    let at : c.in-Hear.n < 1 + length (wired_task c.args.self.now.wiring c.args.task).links = subst (λ (q : Place). PlaceIn (wired_task c.args.self.now.wiring c.args.task) q) c.in-Hear.is c.requires.place in
    let positive = c.if-n-gt0.true in
    rw (c.items.ensures.value, c.task.ensures) (link_in_layout c.args.self.now c.args.task c.requires.task (c.in-Hear.n - 1) (omega arith))

pub aim-requires : goal.aim-requires
aim-requires c = in_layout c.args.self.now c.args.task c.requires.task
