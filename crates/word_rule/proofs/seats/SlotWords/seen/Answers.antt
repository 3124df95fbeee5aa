use Rattle.word_rule.proofs.ReleaserCalls.{entry_there, seen_known, seen_load, seen_then, task_in_layout}
use Rattle.word_rule.proofs.seats.SlotWords.seen.Goals as goal

pub ended-address-requires : goal.ended-address-requires
ended-address-requires c = task_in_layout c.args.self.now c.args.seat.now c.requires.here c.args.task c.requires.task

pub load-ended-requires : goal.load-ended-requires
load-ended-requires c = let load = seen_load c.args.self.now c.args.seat.now c.requires.here c.args.task c.requires.task _ _ c.ended-address.ensures in (c.requires.here.0, load.0, load.1)

pub see-requires : goal.see-requires
see-requires c = entry_there c.args.self.now c.args.seat.now c.requires.here c.args.task c.requires.task

pub invariant_of-seat : goal.invariant_of-seat
invariant_of-seat c = record { same = seen_then c.args.self.now c.args.seat.now c.requires.here c.args.task c.requires.task c.load-ended.result _ _ c.load-ended.new.seat.me c.see.new.self c.ended-address.ensures c.load-ended.ensures.2 c.see.ensures }

pub returns-clause-known : goal.returns-clause-known
returns-clause-known c = (seen_known c.args.self.now c.args.seat.now c.requires.here c.args.task c.requires.task c.load-ended.result _ _ c.load-ended.new.seat.me c.ended-address.ensures c.load-ended.ensures.2).0

pub returns-clause-aimed : goal.returns-clause-aimed
returns-clause-aimed c = (seen_known c.args.self.now c.args.seat.now c.requires.here c.args.task c.requires.task c.load-ended.result _ _ c.load-ended.new.seat.me c.ended-address.ensures c.load-ended.ensures.2).1
