use Rattle.std.proofs.Common.{FitsSigned, rules, w64, ◌+◌, ◌∙◌, ap}
use Rattle.std.proofs.lemmas.Int.{to_z-of_z}
use Rattle.dbp_rules.specs.SharedWords.{signed_value}
use Rattle.dbp_rules.specs.Moves.{at_place, put_place}
use Rattle.dbp_rules.specs.declared.wiring.TaskWiring.{TaskWiring}
use Rattle.word_rule.proofs.WorkCalls.{put_store, put_then, put_word}
use Rattle.word_rule.proofs.seats.SlotWords.put.Goals as goal

pub word-address-requires : goal.word-address-requires
word-address-requires c = put_word c.args.self.now c.args.seat.now c.requires.here c.args.port c.requires.allowed c.own_slot-slot.result c.own_slot-slot.ensures

pub store-requires : goal.store-requires
store-requires c =
    let fits : FitsSigned w64 c.args.value = search rules in
    let store = put_store c.args.self.now c.args.seat.now c.requires.here c.args.port c.requires.allowed c.args.value fits c.requires.meant c.own_slot-slot.result _ _ _ c.own_slot-slot.ensures c.word-address.ensures (c.value_to_word-word.ensures ∙ ap signed_value (to_z-of_z w64 c.args.value fits)) in
    (c.requires.here.0, store.0, store.1)

pub invariant_of-seat : goal.invariant_of-seat
invariant_of-seat c =
    let next = c.put.ensures ∙ ap (λ (y : TaskWiring). at_place c.args.seat.now.part (put_place y.ports (c.args.port + 1))) c.task.ensures in
    record { same = put_then c.args.self.now c.args.seat.now c.requires.here c.args.port c.requires.allowed _ _ _ c.store.new.seat.me c.put.new.self c.store.ensures.2 next }
