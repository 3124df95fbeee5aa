use Rattle.std.proofs.Common.{◌≡◌, ◌<◌, ◌+◌, ℕ, ℤ, List, length, slice_get, get_or, set, Some, ap, ◌∙◌, sym, arith, rules, w64}
use Rattle.std.proofs.lemmas.Int.{to_z-of_z}
use Rattle.std.proofs.lemmas.List.{length-set}
use Rattle.std.proofs.lemmas.Option.{slice_get-get_or}
use Rattle.dbp_plan.specs.declared.diagram.Let.{Let}
use Rattle.dbp_plan.specs.Closed.{let_base}
use Rattle.expr_eval.specs.Values.{value_of}
use Rattle.sync_meaning.specs.Lets.{lets_more, lets_all}
use Rattle.sync_meaning.proofs.Sets.{item_at, refill_all}
use Rattle.dbp_plan.specs.ListItems.{all_place}
use Rattle.sync_meaning.proofs.instance.set_lets.Goals as goal
use mir.Val.{to_z, of_z}

pub loop-place-preserved : goal.loop-place-preserved
loop-place-preserved c =
    let task = c.args.task.now in
    let order = c.requires.closed.3.order in
    let n : ℕ = c.loop-place.place-index in
    let i : ℕ = get_or c.items-place-items.result.now n 0 in
    let l : Let = c.index-items-place.result in
    let now : List ℤ = c.loop-place.now in
    let at_i : slice_get task.order n ≡ Some i = ap (λ (xs : List ℕ). slice_get xs n) (sym c.items-place-items.ensures.value) ∙ slice_get-get_or c.items-place-items.result.now n 0 c.loop-place-test.true in
    let below : i < length task.lets = all_place (λ k. k < length task.lets) task.order n i order.named at_i in
    let at_l : slice_get task.lets i ≡ Some l = item_at task.lets c.items.result.now i l c.items.ensures.value below c.index-items-place.is in
    let value : c.eval-value.result ≡ value_of l.expr now =
    c.eval-value.ensures ∙ ap (λ (m : Let). value_of m.expr c.items-in-loop-place.result.now) (sym c.index-items-place.is) ∙ ap (λ (e : List ℤ). value_of l.expr e) c.items-in-loop-place.ensures.value in
    let shown : to_z w64 (of_z w64 c.eval-value.result) ≡ c.eval-value.result = search (rules, to_z-of_z) in
    let place : c.len.result + c.len-2.result + c.len-3.result + i ≡ let_base task + i = omega (arith, c.len.ensures, c.len-2.ensures, c.len-3.ensures) in
    let whole = refill_all now (set c.items_mut.result.now (c.len.result + c.len-2.result + c.len-3.result + i) c.eval-value.result) (length-set c.items_mut.result.now (c.len.result + c.len-2.result + c.len-3.result + i) c.eval-value.result ∙ ap length c.items_mut.ensures.value) in
    let inside : let_base task + i < length now = omega (arith, below, c.loop-place.invariant.size, c.requires.size) in
    rw shown (rw whole (rw (c.items_mut.ensures.value, place, value) (lets_more n i l task c.args.now.now now order at_i at_l inside c.loop-place.invariant)))

pub returns-clause-lets : goal.returns-clause-lets
returns-clause-lets c =
    lets_all c.loop-place.place-index c.args.task.now c.args.now.now c.loop-place.now c.requires.closed.3.order (omega (arith, c.loop-place-test.false, ap length c.items-place-items.ensures.value)) c.loop-place.invariant
