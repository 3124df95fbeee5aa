use Rattle.std.proofs.Common.{◌∙◌}
use Rattle.word_rule.proofs.ReleaserCalls.{entry_there, open_place, open_store, open_then, task_in_layout}
use Rattle.word_rule.proofs.seats.SlotWords.open_gate.Goals as goal

pub gate-address-requires : goal.gate-address-requires
gate-address-requires c = task_in_layout c.args.self.now c.args.seat.now c.requires.here c.args.task c.requires.task

pub open-gate-requires-clause-task : goal.open-gate-requires-clause-task
open-gate-requires-clause-task c = entry_there c.args.self.now c.args.seat.now c.requires.here c.args.task c.requires.task

pub open-gate-requires-clause-place : goal.open-gate-requires-clause-place
open-gate-requires-clause-place c = open_place c.args.self.now c.args.seat.now c.requires.here c.args.task c.requires.task c.requires.allowed

pub store-requires : goal.store-requires
store-requires c = let store = open_store c.args.self.now c.args.seat.now c.requires.here c.args.task c.requires.task c.requires.allowed _ _ _ c.gate-address.ensures (c.from.ensures ∙ c.open-gate.ensures.gate) in (c.requires.here.0, store.0, store.1)

pub invariant_of-seat : goal.invariant_of-seat
invariant_of-seat c = record { same = open_then c.args.self.now c.args.seat.now c.requires.here c.args.task c.requires.task c.requires.allowed _ _ _ c.store.new.seat.me c.open-gate.new.self c.gate-address.ensures c.store.ensures.2 c.open-gate.ensures.next }
