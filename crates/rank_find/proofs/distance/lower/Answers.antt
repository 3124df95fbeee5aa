use Rattle.std.proofs.Common.{◌≡◌, ◌<◌, ◌≤◌, ℕ, get_or, length, take, arith}
use Rattle.std.proofs.lemmas.List.{get_or_default, take_more}
use Rattle.rank_find.specs.declared.distance.TheConstants.{FAR}
use Rattle.rank_find.specs.Distances.{distance_of}
use Rattle.rank_find.proofs.Distances.{lowered_kept, lowered_set}
use Rattle.rank_find.proofs.distance.lower.Goals.{then-distance-distances, else-distance-distances}
use Rattle.rank_find.proofs.distance.lower.Goals as goal

pub loop-task-preserved : goal.loop-task-preserved
loop-task-preserved c =
    let tasks = c.args.tasks.now in
    let old = c.args.distances.now in
    let new = c.loop-task.distances in
    let k : ℕ = c.loop-task.task-index in
    let task : ℕ = get_or tasks k 0 in
    let inside : task < length new = omega (arith, c.requires k 0 c.loop-task-test.true, c.loop-task.auto.distances) in
    let at : distance_of new task ≡ get_or new task 0 = get_or_default new task FAR 0 inside in
    elim c.if-distance-distances.branch [
      | then-distance-distances w ↦
          let far : c.args.distance < distance_of new task = omega (arith, at, w.if-distance-distances.true) in
          rw (take_more tasks k 0 c.loop-task-test.true, w.distances-is) (lowered_set (take k tasks) c.args.distance old new task c.loop-task.invariant inside far)
      | else-distance-distances w ↦
          let near : distance_of new task ≤ c.args.distance = omega (arith, at, w.if-distance-distances.false) in
          rw (take_more tasks k 0 c.loop-task-test.true, w.distances-is) (lowered_kept (take k tasks) c.args.distance old new task c.loop-task.invariant near)
    ]
