use Rattle.std.proofs.Common.{◌+◌, ap}
use Rattle.word_rule.proofs.TaskCalls.{task_in_layout}
use Rattle.word_rule.proofs.WorkCalls.{end_ended, end_store, end_then}
use Rattle.word_rule.proofs.seats.SlotWords.end.Goals as goal

pub ended-address-requires : goal.ended-address-requires
ended-address-requires c = task_in_layout c.args.self.now c.args.seat.now c.requires.here

pub store-requires : goal.store-requires
store-requires c = let store = end_store c.args.self.now c.args.seat.now c.requires.here c.requires.allowed _ _ _ c.ended-address.ensures (ap (λ n. n + 1) c.from-ended.ensures) in (c.requires.here.0, store.0, store.1)

pub end-requires : goal.end-requires
end-requires c = end_ended c.args.self.now c.args.seat.now c.requires.here c.requires.allowed

pub invariant_of-seat : goal.invariant_of-seat
invariant_of-seat c = record { same = end_then c.args.self.now c.args.seat.now c.requires.here c.requires.allowed _ _ _ c.store.new.seat.me c.end.new.self c.store.ensures.2 c.end.ensures }
