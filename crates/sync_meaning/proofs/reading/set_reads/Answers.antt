use Rattle.std.proofs.Common.{◌≡◌, ◌<◌, ◌+◌, ℤ, List, subst, length, ap, ◌∙◌, arith, rules, w64}
use Rattle.std.proofs.lemmas.Int.{to_z-of_z}
use Rattle.std.specs.Prelude.{slice_index}
use Rattle.dbp_plan.specs.ListItems.{read_place, all_place}
use Rattle.sync_meaning.specs.Meaning.{IsRead}
use Rattle.sync_meaning.specs.Shape.{AreWritten, IsReadable}
use Rattle.sync_meaning.proofs.Envs.{written_more, written_all}
use Rattle.sync_meaning.proofs.Sets.{item_at, refill_all}
use Rattle.sync_meaning.proofs.reading.set_reads.Goals as goal
use mir.Val.{to_z, of_z}

pub read_value-requires-clause-there : goal.read_value-requires-clause-there
read_value-requires-clause-there c =
    let at = read_place _ _ _ c.loop-k-test.true c.read-item.is in
    all_place (IsReadable c.args.links.now (slice_index c.args.named.now) c.args.table.now) c.args.task.now.reads c.loop-k.k c.read-item.result c.requires.reads (rw c.items-read-items.ensures.value at at)

pub loop-k-preserved : goal.loop-k-preserved
loop-k-preserved c =
    let shown : to_z w64 (of_z w64 c.read_value.result) ≡ c.read_value.result = search (rules, to_z-of_z) in
    let at = item_at c.args.task.now.reads c.items-read-items.result.now c.loop-k.k c.read-item.result c.items-read-items.ensures.value (omega (arith, c.loop-k-test.true, ap length c.items-read-items.ensures.value)) c.read-item.is in
    let states : length c.items.result.now ≡ length c.args.task.now.states = ap length c.items.ensures.value in
    let senses : length c.items-2.result.now ≡ length c.args.task.now.senses = ap length c.items-2.ensures.value in
    let place : length c.items.result.now + length c.items-2.result.now + c.loop-k.k ≡ length c.args.task.now.states + length c.args.task.now.senses + c.loop-k.k = omega arith in
    let inside : length c.items.result.now + length c.items-2.result.now + c.loop-k.k < length c.loop-k.now = search rules in
    rw shown (written_more _ _ _ c.read-item.result c.read_value.result c.args.task.now.reads _ _ _ at c.read_value.ensures place inside c.loop-k.invariant)

pub returns-clause-now : goal.returns-clause-now
returns-clause-now c =
    let base = length c.args.task.now.states + length c.args.task.now.senses in
    let fits = IsRead c.args.links.now (slice_index c.args.named.now) c.args.table.now in
    let size : length c.items-read-items.result.now ≡ length c.args.task.now.reads = ap length c.items-read-items.ensures.value in
    let whole = refill_all c.args.env.now.now c.loop-k.now (c.loop-k.auto.now ∙ ap length c.items_mut-now.ensures.value) in
    let all = written_all c.loop-k.k base c.args.task.now.reads fits c.items_mut-now.result.now c.loop-k.now (omega arith) (omega arith) c.loop-k.invariant in
    rw whole (subst (λ (l : List ℤ). AreWritten base c.args.task.now.reads fits l c.loop-k.now) c.items_mut-now.ensures.value all)
