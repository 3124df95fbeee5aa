use Rattle.word_rule.proofs.TaskCalls.{start_ended, start_load, start_then, task_in_layout}
use Rattle.word_rule.proofs.seats.SlotWords.start.Goals as goal

pub gate-address-requires : goal.gate-address-requires
gate-address-requires c = task_in_layout c.args.self.now c.args.seat.now c.requires.here

pub load-gate-requires : goal.load-gate-requires
load-gate-requires c = let load = start_load c.args.self.now c.args.seat.now c.requires.here c.requires.allowed _ _ c.gate-address.ensures in (c.requires.here.0, load.0, load.1)

pub start-requires : goal.start-requires
start-requires c = start_ended c.args.self.now c.args.seat.now c.requires.here

pub invariant_of-seat : goal.invariant_of-seat
invariant_of-seat c = record { same = start_then c.args.self.now c.args.seat.now c.requires.here c.load-gate.result _ _ c.load-gate.new.seat.me c.start.new.self c.load-gate.ensures.2 c.start.ensures.next }
