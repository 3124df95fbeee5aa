use Rattle.std.proofs.Common.{◌≡◌, ◌<◌, ℤ, List, length, take, ap, ◌∙◌, subst, arith, rules, w64}
use Rattle.std.proofs.lemmas.Int.{to_z-of_z}
use Rattle.sync_meaning.specs.Meaning.{AreStatesAfter}
use Rattle.sync_meaning.specs.Nexts.{nexts_more, nexts_all}
use Rattle.sync_meaning.proofs.Sets.{item_at, refill_all}
use Rattle.sync_meaning.proofs.instance.set_nexts.Goals as goal
use mir.Val.{to_z, of_z}

pub loop-next-preserved : goal.loop-next-preserved
loop-next-preserved c =
    let shown : to_z w64 (of_z w64 c.eval.result) ≡ c.eval.result = search (rules, to_z-of_z) in
    let at = item_at c.args.task.now.nexts c.items-next-items.result.now c.loop-next.next-index c.next-item.result c.items-next-items.ensures.value (omega (arith, c.loop-next-test.true, ap length c.items-next-items.ensures.value)) c.next-item.is in
    let inside : c.next-item.result.state < length c.loop-next.later = search rules in
    rw (shown, c.eval.ensures) (nexts_more c.loop-next.next-index c.next-item.result c.args.task.now.nexts c.args.now.now c.copy_from_slice.new.self c.loop-next.later c.requires.closed.3.one_next at inside c.loop-next.invariant)

pub returns : goal.returns
returns c =
    let copied : c.copy_from_slice.new.self ≡ take (length c.args.task.now.states) c.args.now.now = search rules in
    let whole = refill_all c.args.later.now c.loop-next.later (c.loop-next.auto.later ∙ c.copy_from_slice.ensures.len ∙ ap length c.items_mut-later.ensures.value) in
    let all = nexts_all c.loop-next.next-index c.args.task.now c.args.now.now c.copy_from_slice.new.self c.loop-next.later (omega (arith, ap length c.items-next-items.ensures.value)) c.loop-next.invariant in
    rw whole (subst (λ (l : List ℤ). AreStatesAfter c.args.task.now c.args.now.now l c.loop-next.later) copied all)
