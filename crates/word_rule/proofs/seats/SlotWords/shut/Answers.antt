use Rattle.word_rule.proofs.WorkCalls.{shut_store, shut_then, shut_word}
use Rattle.word_rule.proofs.seats.SlotWords.shut.Goals as goal

pub stamp-address-requires : goal.stamp-address-requires
stamp-address-requires c = shut_word c.args.self.now c.args.seat.now c.requires.here c.requires.allowed c.own_slot-slot.result c.own_slot-slot.ensures

pub store-requires : goal.store-requires
store-requires c = let store = shut_store c.args.self.now c.args.seat.now c.requires.here c.requires.allowed c.own_slot-slot.result _ _ c.own_slot-slot.ensures c.stamp-address.ensures in (c.requires.here.0, store.0, store.1)

pub invariant_of-seat : goal.invariant_of-seat
invariant_of-seat c = record { same = shut_then c.args.self.now c.args.seat.now c.requires.here c.requires.allowed _ _ c.store.new.seat.me c.shut.new.self c.store.ensures.2 c.shut.ensures }
