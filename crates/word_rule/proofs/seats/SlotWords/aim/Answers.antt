use Rattle.std.proofs.Common.{◌∙◌, ap}
use Rattle.dbp_rules.specs.SharedWords.{order_value}
use Rattle.word_rule.proofs.ReleaserCalls.{aim_aimed, aim_place, aim_store, aim_then}
use Rattle.word_rule.proofs.seats.SlotWords.aim.Goals as goal

pub aim-order-requires-clause-aimed : goal.aim-order-requires-clause-aimed
aim-order-requires-clause-aimed c = aim_aimed c.args.self.now c.args.seat.now c.requires.here c.args.task c.args.slot c.requires.task c.requires.allowed

pub aim-order-requires-clause-place : goal.aim-order-requires-clause-place
aim-order-requires-clause-place c = aim_place c.args.self.now c.args.seat.now c.requires.here c.args.task c.args.slot c.requires.task c.requires.allowed

pub store-requires : goal.store-requires
store-requires c = let store = aim_store c.args.self.now c.args.seat.now c.requires.here c.args.task c.args.slot c.requires.task c.requires.allowed _ _ _ c.aim-address.ensures (c.to_word.ensures ∙ ap order_value c.aim-order.ensures.order) in (c.requires.here.0, store.0, store.1)

pub invariant_of-seat : goal.invariant_of-seat
invariant_of-seat c = record { same = aim_then c.args.self.now c.args.seat.now c.requires.here c.args.task c.args.slot c.requires.task c.requires.allowed _ _ _ c.store.new.seat.me c.aim-order.new.self c.aim-address.ensures (c.to_word.ensures ∙ ap order_value c.aim-order.ensures.order) c.store.ensures.2 c.aim-order.ensures.next }
