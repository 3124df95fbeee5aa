use Rattle.std.proofs.Common.{rules, arith, ◌≡◌, slice_get, ◌∙◌, Some, w64}
use Rattle.std.proofs.lemmas.Int.{to_z-of_z}
use Rattle.dbp_plan.specs.ListItems.{read_place}
use Rattle.dbp_plan.specs.Samples.{own_samples}
use Rattle.dbp_plan.proofs.InputValues.{input_rising, input_until}
use Rattle.dbp_rules.proofs.sensing.input_at.Goals as goal
use mir.Val.{to_z, of_z}

pub value_at-requires : goal.value_at-requires
value_at-requires c =
    let there : slice_get c.args.wiring.now.samples c.args.input ≡ Some c.index-items-input-2.result =
    read_place c.args.wiring.now.samples c.args.input c.index-items-input-2.result (omega (arith, c.requires.samples.size, c.requires.input)) (rw c.items-2.ensures.value at c.index-items-input-2.is) in
    let own : c.index-items-input-2.result ≡ own_samples c.args.input c.args.plan.now.samples = c.requires.samples.each c.args.input c.index-items-input-2.result there in
    rw (c.items-3.ensures.value, own) (input_rising c.args.input c.args.plan.now.samples c.args.plan.now.rules.sample_order)

pub returns : goal.returns
returns c =
    let there : slice_get c.args.wiring.now.samples c.args.input ≡ Some c.index-items-input-2.result =
    read_place c.args.wiring.now.samples c.args.input c.index-items-input-2.result (omega (arith, c.requires.samples.size, c.requires.input)) (rw c.items-2.ensures.value at c.index-items-input-2.is) in
    let own : c.index-items-input-2.result ≡ own_samples c.args.input c.args.plan.now.samples = c.requires.samples.each c.args.input c.index-items-input-2.result there in
    let input : slice_get c.args.plan.now.diagram.inputs c.args.input ≡ Some c.index-items-input.result = read_place c.args.plan.now.diagram.inputs c.args.input c.index-items-input.result c.requires.input (rw c.items.ensures.value at c.index-items-input.is) in
    let shown : to_z w64 (of_z w64 c.value_at.result) ≡ c.value_at.result = search (rules, to_z-of_z) in
    shown ∙ rw (c.items-3.ensures.value, own) at c.value_at.ensures ∙ input_until c.args.plan.now.diagram.inputs c.args.plan.now.samples c.args.input c.args.time c.index-items-input.result input
