use Rattle.std.proofs.Common.{rules, arith, ◌≡◌, ◌-◌, sym, ◌∙◌, slice_index_or, pos, w64}
use Rattle.std.proofs.lemmas.Int.{to_z-of_z}
use Rattle.dbp_plan.specs.declared.schedule.Sample.{Sample}
use Rattle.dbp_plan.proofs.InputValues.{IsUntil, until_point, value_last, value_none}
use Rattle.dbp_rules.proofs.sensing.value_at.Goals as goal
use mir.Val.{to_z, of_z}

pub returns-then-given-eq0 : goal.returns-then-given-eq0
returns-then-given-eq0 c =
    let until : IsUntil c.args.samples.now c.args.time c.partition_point-given.result = until_point c.args.samples.now c.args.time c.partition_point-given.result c.partition_point-given.ensures.partitioned c.requires (λ a r q k. search rules) in
    let shown : to_z w64 (of_z w64 c.args.input.now.first) ≡ c.args.input.now.first = search (rules, to_z-of_z) in
    shown ∙ sym (value_none c.args.input.now.first c.args.samples.now c.args.time c.partition_point-given.result until c.if-given-eq0.true)

pub returns-else-given-eq0 : goal.returns-else-given-eq0
returns-else-given-eq0 c =
    let until : IsUntil c.args.samples.now c.args.time c.partition_point-given.result = until_point c.args.samples.now c.args.time c.partition_point-given.result c.partition_point-given.ensures.partitioned c.requires (λ a r q k. search rules) in
    let last : Sample = slice_index_or c.args.samples.now (c.partition_point-given.result - 1) (record { time = 0; input = 0; value = pos 0 }) in
    let shown : to_z w64 (of_z w64 last.value) ≡ last.value = search (rules, to_z-of_z) in
    shown ∙ sym (value_last c.args.input.now.first c.args.samples.now c.args.time c.partition_point-given.result (record { time = 0; input = 0; value = pos 0 }) (omega (arith, c.partition_point-given.ensures.bound)) until (omega (arith, c.if-given-eq0.false)))
