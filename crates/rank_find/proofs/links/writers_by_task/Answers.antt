use Rattle.std.proofs.Common.{◌≡◌, ℕ, length, subst, arith}
use Rattle.rank_find.proofs.Writers.{WritersSoFar, writers_all}
use Rattle.rank_find.proofs.links.writers_by_task.Goals as goal

pub returns : goal.returns
returns c =
    let all : c.loop-task.task ≡ length c.args.diagram.now.tasks = omega (arith, c.len-task-end.ensures) in
    writers_all c.args.diagram.now c.loop-task.writers c.requires (subst (λ (n : ℕ). WritersSoFar c.args.diagram.now.links n c.loop-task.writers) all c.loop-task.invariant)
