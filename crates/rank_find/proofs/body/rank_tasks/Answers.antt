use Rattle.std.proofs.Common.{◌≡◌, ◌<◌, ℕ, get_or, length, slice_get, Some, arith, subst}
use Rattle.std.proofs.lemmas.Option.{slice_get-get_or}
use Rattle.rank_find.proofs.RankedBodies.{RankedSoFar, place_inside, ranked_all, ranked_more}
use Rattle.rank_find.proofs.body.rank_tasks.Goals as goal

pub overflow_add-prio : goal.overflow_add-prio
overflow_add-prio c =
    let there = place_inside (length c.args.tasks.now) c.args.order.now c.loop-task.task c.requires.each (omega (arith, c.loop-task-test.true, c.loop-task.auto.tasks)) in
    omega (arith, there, c.place_in.ensures, c.requires.few)

pub overflow_sub-prio : goal.overflow_sub-prio
overflow_sub-prio c =
    let there = place_inside (length c.args.tasks.now) c.args.order.now c.loop-task.task c.requires.each (omega (arith, c.loop-task-test.true, c.loop-task.auto.tasks)) in
    omega (arith, there, c.place_in.ensures)

pub loop-task-preserved : goal.loop-task-preserved
loop-task-preserved c =
    let tasks = c.loop-task.tasks in
    let count : ℕ = c.loop-task.task in
    let inside : count < length tasks = omega (arith, c.loop-task-test.true, c.loop-task.auto.tasks) in
    let raw = get_or tasks count c.index-tasks-task.result in
    let at : slice_get tasks count ≡ Some raw = slice_get-get_or tasks count c.index-tasks-task.result inside in
    rw c.place_in.ensures (ranked_more c.args.order.now count c.args.tasks.now tasks raw c.loop-task.invariant (omega (arith, inside, c.loop-task.auto.tasks)) at)

pub returns : goal.returns
returns c =
    let all : c.loop-task.task ≡ length c.args.tasks.now = omega (arith, c.loop-task.auto.tasks) in
    ranked_all c.args.order.now c.args.tasks.now c.loop-task.tasks (subst (λ (n : ℕ). RankedSoFar c.args.order.now n c.args.tasks.now c.loop-task.tasks) all c.loop-task.invariant)
