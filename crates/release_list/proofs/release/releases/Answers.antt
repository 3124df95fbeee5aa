-- The claims of all tasks, and room for each batch.
use Rattle.std.proofs.Common.{◌≡◌, ◌∙◌, ◌<◌, All, List, arith, length, ap, sym, subst, get_or}
use Rattle.dbp_plan.specs.declared.schedule.Batch.{Batch}
use Rattle.release_list.specs.Releases.{claims_by_task}
use Rattle.release_list.proofs.IntoLinks.{claims_size}
use Rattle.release_list.proofs.Room.{room}
use Rattle.release_list.proofs.release.releases.Goals as goal

-- the claims are those of all tasks
made : (c : goal.After-items) → c.items.result.now ≡ claims_by_task c.args.plan.now.diagram.links (length c.args.plan.now.diagram.tasks)
made c = c.items.ensures.value ∙ c.in_ok-claims.ensures ∙ ap (claims_by_task c.args.plan.now.diagram.links) c.len.ensures

of_all : (c : goal.After-items) → length c.items.result.now ≡ length c.args.plan.now.diagram.tasks
of_all c = ap length (made c) ∙ claims_size c.args.plan.now.diagram.links (length c.args.plan.now.diagram.tasks)

pub push_batch-requires-clause-claims : goal.push_batch-requires-clause-claims
push_batch-requires-clause-claims c = made c ∙ ap (claims_by_task c.args.plan.now.diagram.links) (sym (of_all c))

pub push_batch-requires-clause-named : goal.push_batch-requires-clause-named
push_batch-requires-clause-named c =
    let plan = c.args.plan.now in
    let b = c.batch-item.result in
    let index = c.loop-batch.batch-index in
    let here : get_or plan.batches index b ≡ b = sym (c.batch-item.is ∙ ap (λ (l : List Batch). get_or l index b) c.items-batch-items.ensures.value) in
    let within : index < length plan.batches = omega (arith, c.loop-batch-test.true, ap length c.items-batch-items.ensures.value) in
    let named = subst (λ (x : Batch). All (λ i. i < length plan.diagram.tasks) x.tasks) here (plan.rules.named index b within) in
    λ k d below. omega (arith, named k d below, of_all c)

pub push_batch-requires-clause-room : goal.push_batch-requires-clause-room
push_batch-requires-clause-room c =
    let plan = c.args.plan.now in
    let fits = room plan.diagram.links plan.batches c.items-batch-items.result.now c.loop-batch.batch-index c.batch-item.result c.items-batch-items.ensures.value c.loop-batch-test.true c.batch-item.is plan.rules.ranked.closed.links plan.rules.few in
    omega (arith, ap length c.loop-batch.invariant, fits)

pub push_batch-requires-clause-few : goal.push_batch-requires-clause-few
push_batch-requires-clause-few c = omega (arith, of_all c, c.args.plan.now.rules.ranked.closed.tasks)
