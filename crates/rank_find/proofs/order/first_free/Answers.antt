use Rattle.std.proofs.Common.{◌≡◌, ℕ, length, arith, subst}
use Rattle.rank_find.proofs.FreeTasks.{FirstSoFar, first_all, first_changes, first_inside, first_stays, first_waits}
use Rattle.rank_find.proofs.order.first_free.Goals.{then-is_free+then-is_before, else-is_free, else-is_free-via-then-is_free+else-is_before, else-is_free-via-else-is_free}
use Rattle.rank_find.proofs.order.first_free.Goals as goal

pub is_before-requires-clause-other : goal.is_before-requires-clause-other
is_before-requires-clause-other c =
    first_inside c.args.diagram.now c.args.placed.now c.loop-task.task (length c.args.diagram.now.tasks) c.loop-task.first c.loop-task.invariant
    (omega (arith, c.loop-task-test.true, c.len-task-end.ensures))

pub loop-task-preserved : goal.loop-task-preserved
loop-task-preserved c =
    let d = c.args.diagram.now in
    let placed = c.args.placed.now in
    let count : ℕ = c.loop-task.task in
    elim c.if-is_free.branch [
      | then-is_free+then-is_before w ↦ rw w.first-is (first_changes d placed count c.loop-task.first w.is_before.result c.loop-task.invariant w.if-is_free.ensures w.is_before.ensures w.if-is_before.true)
      | else-is_free w ↦ rw w.first-is (elim w.else-is_free.branch [
        | else-is_free-via-then-is_free+else-is_before v ↦ first_stays d placed count c.loop-task.first v.is_before.result c.loop-task.invariant v.is_before.ensures v.if-is_before.false
        | else-is_free-via-else-is_free v ↦ first_waits d placed count c.loop-task.first c.loop-task.invariant v.if-is_free.ensures
      ])
    ]

pub returns : goal.returns
returns c =
    let all : c.loop-task.task ≡ length c.args.diagram.now.tasks = omega (arith, c.len-task-end.ensures) in
    first_all c.args.diagram.now c.args.placed.now c.loop-task.first (subst (λ (n : ℕ). FirstSoFar c.args.diagram.now c.args.placed.now n c.loop-task.first) all c.loop-task.invariant)
