use Rattle.std.proofs.Common.{◌∙◌, length, ap, arith}
use Rattle.dbp_rules.specs.PartyRules.{an_order, task_after}
use Rattle.dbp_rules.specs.declared.step.Step.TheVariants.{Hear}
use Rattle.dbp_rules.specs.declared.wiring.TaskWiring.{TaskWiring}
use Rattle.word_rule.proofs.TaskCalls.{hear_fits, hear_links, hear_load, hear_number, hear_room, hear_then}
use Rattle.word_rule.proofs.seats.SlotWords.hear.Goals as goal

pub load-found-requires : goal.load-found-requires
load-found-requires c = let load = hear_load c.args.self.now c.args.seat.now c.requires.here c.requires.allowed _ _ c.order_address-address.ensures in (c.requires.here.0, load.0, load.1)

pub hear-requires-clause-room : goal.hear-requires-clause-room
hear-requires-clause-room c = hear_room c.args.self.now c.args.seat.now c.requires.here c.requires.allowed

pub hear-requires-clause-links : goal.hear-requires-clause-links
hear-requires-clause-links c = omega (arith, hear_links c.args.self.now c.args.seat.now c.requires.here c.requires.allowed, ap (λ (x : TaskWiring). length x.links) c.task.ensures)

pub hear-requires-clause-number : goal.hear-requires-clause-number
hear-requires-clause-number c = hear_number c.args.self.now c.args.seat.now c.requires.here c.requires.allowed

pub invariant_of-seat : goal.invariant_of-seat
invariant_of-seat c = record { same = hear_then c.args.self.now c.args.seat.now c.requires.here c.requires.allowed c.load-found.result _ _ c.load-found.new.seat.me c.hear.new.self c.from_word-order.result c.load-found.ensures.2 c.from_word-order.ensures (c.hear.ensures ∙ ap (λ (x : TaskWiring). task_after x c.args.seat.now.part (Hear c.args.seat.now.task) (an_order c.from_word-order.result)) c.task.ensures) }

pub returns-clause-fits : goal.returns-clause-fits
returns-clause-fits c = hear_fits c.args.self.now c.args.seat.now c.requires.here c.requires.allowed c.load-found.result _ _ c.load-found.new.seat.me c.from_word-order.result c.load-found.ensures.2 c.from_word-order.ensures
