use Rattle.std.proofs.Common.{◌≡◌, ◌+◌, ℕ, Bool, sym, ◌∙◌, ap}
use Rattle.dbp_rules.specs.Moves.{after_look}
use Rattle.dbp_rules.specs.PartyRules.{is_stamp_of, read_order_in, turn_at}
use Rattle.dbp_rules.specs.Lookups.{read_at}
use Rattle.dbp_rules.specs.declared.wiring.TaskWiring.{TaskWiring}
use Rattle.word_rule.proofs.WorkCalls.{look_delayed, look_fails, look_heard, look_load, look_then, look_word}
use Rattle.word_rule.proofs.seats.SlotWords.look.Goals as goal

pub read_order-order-requires-clause-heard : goal.read_order-order-requires-clause-heard
read_order-order-requires-clause-heard c = rw c.task-wired.ensures (look_heard c.args.self.now c.args.seat.now c.requires.here c.args.read c.requires.allowed)

pub stamp-address-requires : goal.stamp-address-requires
stamp-address-requires c = look_word c.args.self.now c.args.seat.now c.requires.here c.args.read c.requires.allowed c.read_in_turn-from.result c.read_order-order.result (c.read_in_turn-from.ensures ∙ ap (λ (y : TaskWiring). read_at y (turn_at c.args.seat.now.part.place)) c.task-wired.ensures) (c.read_order-order.ensures ∙ ap (λ (y : TaskWiring). read_order_in y c.args.seat.now.part (turn_at c.args.seat.now.part.place)) c.task-wired.ensures)

pub load-stamp-requires : goal.load-stamp-requires
load-stamp-requires c = let load = look_load c.args.self.now c.args.seat.now c.requires.here c.args.read c.requires.allowed c.read_in_turn-from.result c.read_order-order.result _ _ (c.read_in_turn-from.ensures ∙ ap (λ (y : TaskWiring). read_at y (turn_at c.args.seat.now.part.place)) c.task-wired.ensures) (c.read_order-order.ensures ∙ ap (λ (y : TaskWiring). read_order_in y c.args.seat.now.part (turn_at c.args.seat.now.part.place)) c.task-wired.ensures) c.stamp-address.ensures in (c.requires.here.0, load.0, load.1)

pub look-requires-clause-heard : goal.look-requires-clause-heard
look-requires-clause-heard c = rw c.task-wired.ensures (look_heard c.args.self.now c.args.seat.now c.requires.here c.args.read c.requires.allowed)

pub invariant_of-seat : goal.invariant_of-seat
invariant_of-seat c =
    let number : c.read_order-order.result.number + 1 ≡ c.load-stamp.result = sym (c.if-stamp-from.true ∙ ap (λ n. n + 1) c.from.ensures) in
    let next = c.look.ensures.next ∙ ap (λ (y : TaskWiring × ℕ). after_look c.args.seat.now.part (turn_at c.args.seat.now.part.place) (is_stamp_of (read_order_in y.0 c.args.seat.now.part (turn_at c.args.seat.now.part.place)) y.1)) (λ i. (c.task-wired.ensures i, number i)) in
    record { same = look_then c.args.self.now c.args.seat.now c.requires.here c.args.read c.requires.allowed c.load-stamp.result _ _ c.load-stamp.new.seat.me c.look.new.self c.load-stamp.ensures.2 next }

pub invariant_of-seat-else-stamp-from : goal.invariant_of-seat-else-stamp-from
invariant_of-seat-else-stamp-from c =
    let next = sym (ap (λ (b : Bool). after_look c.args.seat.now.part (turn_at c.args.seat.now.part.place) b) (look_fails c.args.self.now c.args.seat.now c.requires.here c.args.read c.requires.allowed c.read_order-order.result c.load-stamp.result (c.read_order-order.ensures ∙ ap (λ (y : TaskWiring). read_order_in y c.args.seat.now.part (turn_at c.args.seat.now.part.place)) c.task-wired.ensures) (λ e. c.if-stamp-from.false (e ∙ sym (ap (λ n. n + 1) c.from.ensures))))) in
    record { same = look_then c.args.self.now c.args.seat.now c.requires.here c.args.read c.requires.allowed c.load-stamp.result _ _ c.load-stamp.new.seat.me c.args.seat.now.part c.load-stamp.ensures.2 next }

pub returns-else-stamp-from-clause-delayed : goal.returns-else-stamp-from-clause-delayed
returns-else-stamp-from-clause-delayed c = λ late.
    let ready = look_delayed c.args.self.now c.args.seat.now c.requires.here c.args.read c.requires.allowed c.load-stamp.result _ _ c.load-stamp.new.seat.me c.load-stamp.ensures.2 late in
    let other = look_fails c.args.self.now c.args.seat.now c.requires.here c.args.read c.requires.allowed c.read_order-order.result c.load-stamp.result (c.read_order-order.ensures ∙ ap (λ (y : TaskWiring). read_order_in y c.args.seat.now.part (turn_at c.args.seat.now.part.place)) c.task-wired.ensures) (λ e. c.if-stamp-from.false (e ∙ sym (ap (λ n. n + 1) c.from.ensures))) in
    absurd (cc (ready, other))
