use Rattle.std.proofs.Common.{◌≡◌, ◌<◌, ◌≤◌, ap, ◌∙◌, arith}
use Rattle.std.specs.Prelude.{slice_index, slice_index_or}
use Rattle.std.proofs.lemmas.List.{get_or_default}
use Rattle.dbp_plan.specs.declared.diagram.Task.{Task}
use Rattle.dbp_plan.specs.Lookups.{no_declared_task, task_at}
use Rattle.dbp_plan.proofs.RankLaws.{length-ranks}
use Rattle.rta_check.specs.Periods.{period_of}
use Rattle.rta_check.proofs.CountedTasks.{higher_counted, other_counted}
use Rattle.rta_check.proofs.level.Level.of.Goals.{then-ranks-other, else-ranks-other}
use Rattle.rta_check.proofs.level.Level.of.Goals as goal

pub bounds-ranks-other : goal.bounds-ranks-other
bounds-ranks-other c = grind (arith, length-ranks c.args.diagram.now c.requires.ranked)

pub bounds-ranks-task : goal.bounds-ranks-task
bounds-ranks-task c = grind (arith, length-ranks c.args.diagram.now c.requires.ranked)

pub loop-other-preserved : goal.loop-other-preserved
loop-other-preserved c =
    let d = c.args.diagram.now in
    let n = c.loop-other.other in
    let before = c.loop-other.invariant in
    elim c.if-ranks-other.branch [
      | then-ranks-other w ↦
          let t = w.index-tasks-other.result in
          let there : t ≡ task_at d n = w.index-tasks-other.is ∙ get_or_default c.items-tasks.result.now n t no_declared_task c.loop-other-test.true ∙ ap (λ tasks. slice_index_or tasks n no_declared_task) c.items-tasks.ensures.value in
          let less : slice_index d.ranks n < slice_index d.ranks c.args.task = rw c.items-ranks.ensures.value at w.if-ranks-other.true in
          let counted =
          higher_counted d c.args.task n c.loop-other.higher.items before w.of.result less w.of.ensures.higher
          (w.of.ensures.period ∙ ap (λ (t : Task). period_of t.clock) there) (w.of.ensures.cost ∙ ap (λ (t : Task). t.cost) there) in
          rw (w.higher-is, w.push.ensures.items) counted
      | else-ranks-other w ↦
          let most : slice_index d.ranks c.args.task ≤ slice_index d.ranks n = rw c.items-ranks.ensures.value at w.if-ranks-other.false in
          rw w.higher-is (other_counted d c.args.task n c.loop-other.higher.items before most)
    ]
