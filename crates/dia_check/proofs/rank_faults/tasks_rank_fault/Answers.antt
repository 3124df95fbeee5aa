use Rattle.std.proofs.Common.{◌≡◌, ◌<◌, None, length, ◌∙◌, rules}
use Rattle.dia_check.specs.RankFaults.{task_rank_fault}
use Rattle.dbp_plan.proofs.FirstFaults.{first-later}
use Rattle.dia_check.proofs.rank_faults.tasks_rank_fault.Goals as goal

pub loop-place-preserved : goal.loop-place-preserved
loop-place-preserved c =
    let below : c.loop-place.place < length c.args.tasks.now = search rules in
    let none : None ≡ c.task_rank_fault.result = search rules in
    first-later (λ before t. task_rank_fault c.args.policy t) c.args.tasks.now c.args.lines.now c.loop-place.place c.index-tasks-place.result c.loop-place.invariant below c.requires c.index-tasks-place.is (none ∙ c.task_rank_fault.ensures)
