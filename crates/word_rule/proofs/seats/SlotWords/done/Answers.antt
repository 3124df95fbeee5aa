use Rattle.std.proofs.Common.{◌+◌, ap}
use Rattle.word_rule.proofs.WorkCalls.{done_store, done_then, done_word}
use Rattle.word_rule.proofs.seats.SlotWords.done.Goals as goal

pub stamp-address-requires : goal.stamp-address-requires
stamp-address-requires c = done_word c.args.self.now c.args.seat.now c.requires.here c.requires.allowed c.own_slot-slot.result c.own_slot-slot.ensures

pub store-requires : goal.store-requires
store-requires c = let store = done_store c.args.self.now c.args.seat.now c.requires.here c.requires.allowed c.own_slot-slot.result _ _ _ c.own_slot-slot.ensures c.stamp-address.ensures (ap (λ n. n + 2) c.from-stamp.ensures) in (c.requires.here.0, store.0, store.1)

pub invariant_of-seat : goal.invariant_of-seat
invariant_of-seat c = record { same = done_then c.args.self.now c.args.seat.now c.requires.here c.requires.allowed _ _ _ c.store.new.seat.me c.finish.new.self c.store.ensures.2 c.finish.ensures }
