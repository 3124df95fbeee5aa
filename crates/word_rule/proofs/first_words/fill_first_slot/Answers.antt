use Rattle.std.proofs.Common.{◌≡◌, FitsSigned, rules, w64, pos, get_or, map, sym, ap, ◌∙◌, arith}
use Rattle.std.proofs.lemmas.Int.{to_z-of_z}
use Rattle.std.proofs.lemmas.List.{get_or-map}
use Rattle.dbp_plan.specs.declared.diagram.Out.{Out}
use Rattle.dbp_slots.specs.Layout.{sizes}
use Rattle.dbp_rules.specs.SharedWords.{signed_value}
use Rattle.word_rule.proofs.FirstNumbers.{filled_more, filled_none, word_address}
use Rattle.word_rule.proofs.first_words.fill_first_slot.Goals as goal

pub loop-port-init : goal.loop-port-init
loop-port-init c = rw c.stamp.ensures (filled_none (sizes c.args.layout.now) c.args.task c.args.outs.now c.requires.task c.requires.slot c.requires.ports c.args.words.now c.requires.size)

pub bounds-words-word : goal.bounds-words-word
bounds-words-word c =
    let below = c.loop-port-test.true in
    let inside = word_address (sizes c.args.layout.now) c.args.task c.args.outs.now c.requires.task c.requires.slot c.requires.ports c.loop-port.words c.loop-port.port (c.loop-port.invariant.size ∙ c.requires.size) below in
    omega (arith, c.word.ensures)

pub loop-port-preserved : goal.loop-port-preserved
loop-port-preserved c =
    let below = c.loop-port-test.true in
    let fits : FitsSigned w64 c.index-outs-port.result.first = search rules in
    let read : c.value_to_word.result ≡ signed_value c.index-outs-port.result.first = c.value_to_word.ensures ∙ ap signed_value (to_z-of_z w64 c.index-outs-port.result.first fits) in
    let value : c.value_to_word.result ≡ signed_value (get_or (map (λ o. o.first) c.args.outs.now) c.loop-port.port (pos 0)) =
    read ∙ ap (λ (o : Out). signed_value o.first) c.index-outs-port.is ∙ ap signed_value (sym (get_or-map (λ o. o.first) c.args.outs.now c.loop-port.port c.index-outs-port.result (pos 0) below)) in
    rw c.word.ensures (filled_more (sizes c.args.layout.now) c.args.task c.args.outs.now c.requires.task c.requires.slot c.requires.ports c.args.words.now c.loop-port.words c.loop-port.port c.value_to_word.result c.requires.size below value c.loop-port.invariant)
