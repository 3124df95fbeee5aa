use Rattle.std.proofs.lemmas.Int.{to_z-of_z}
use Rattle.std.proofs.Common.{FitsSigned, rules, w64, ◌∙◌, ap}
use Rattle.dbp_rules.specs.Moves.{after_take}
use Rattle.dbp_rules.specs.PartyRules.{read_order_in, turn_at}
use Rattle.dbp_rules.specs.Lookups.{read_at}
use Rattle.dbp_rules.specs.declared.wiring.TaskWiring.{TaskWiring}
use Rattle.word_rule.proofs.WorkCalls.{take_heard, take_load, take_meant, take_more, take_then, take_word}
use Rattle.word_rule.proofs.seats.SlotWords.take.Goals as goal

pub read_order-order-requires-clause-heard : goal.read_order-order-requires-clause-heard
read_order-order-requires-clause-heard c = rw c.task-wired.ensures (take_heard c.args.self.now c.args.seat.now c.requires.here c.args.read c.requires.allowed)

pub word-address-requires : goal.word-address-requires
word-address-requires c = take_word c.args.self.now c.args.seat.now c.requires.here c.args.read c.requires.allowed c.read_in_turn-from.result c.read_order-order.result (c.read_in_turn-from.ensures ∙ ap (λ (y : TaskWiring). read_at y (turn_at c.args.seat.now.part.place)) c.task-wired.ensures) (c.read_order-order.ensures ∙ ap (λ (y : TaskWiring). read_order_in y c.args.seat.now.part (turn_at c.args.seat.now.part.place)) c.task-wired.ensures)

pub load-found-requires : goal.load-found-requires
load-found-requires c = let load = take_load c.args.self.now c.args.seat.now c.requires.here c.args.read c.requires.allowed c.read_in_turn-from.result c.read_order-order.result _ _ (c.read_in_turn-from.ensures ∙ ap (λ (y : TaskWiring). read_at y (turn_at c.args.seat.now.part.place)) c.task-wired.ensures) (c.read_order-order.ensures ∙ ap (λ (y : TaskWiring). read_order_in y c.args.seat.now.part (turn_at c.args.seat.now.part.place)) c.task-wired.ensures) c.word-address.ensures in (c.requires.here.0, load.0, load.1)

pub take-requires : goal.take-requires
take-requires c = take_more c.args.self.now c.args.seat.now c.requires.here c.args.read c.requires.allowed

pub invariant_of-seat : goal.invariant_of-seat
invariant_of-seat c =
    let next = c.take.ensures ∙ ap (λ (y : TaskWiring). after_take y c.args.seat.now.part (turn_at c.args.seat.now.part.place)) c.task-wired.ensures in
    record { same = take_then c.args.self.now c.args.seat.now c.requires.here c.args.read c.requires.allowed c.load-found.result _ _ c.load-found.new.seat.me c.take.new.self c.load-found.ensures.2 next }

pub returns-clause-meant : goal.returns-clause-meant
returns-clause-meant c =
    let fits : FitsSigned w64 c.value_from_word.result = search rules in
    rw (to_z-of_z w64 c.value_from_word.result fits) (take_meant c.args.self.now c.args.seat.now c.requires.here c.args.read c.requires.allowed c.load-found.result _ _ c.load-found.new.seat.me _ c.load-found.ensures.2 c.value_from_word.ensures)
