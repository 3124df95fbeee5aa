use Rattle.std.proofs.Common.{arith, ℕ, List, Option, ◌≡◌, ◌<◌, ◌+◌, length, get_or, refl, sym, ap, ◌∙◌, subst}
use Rattle.std.proofs.lemmas.List.{get_or_default, get_or_read}
use Rattle.dbp_plan.specs.declared.schedule.Batch.{Batch}
use Rattle.instance_steps.specs.Releases.{batch_at, no_batch}
use Rattle.dbp_plan.proofs.PlanRules as rules
use Rattle.virtual_time.proofs.LateTasks.{Worst, chooses, skips}
use Rattle.virtual_time.proofs.run.Run.late_task.Goals as goal
use Rattle.virtual_time.proofs.run.Run.late_task.Goals.{then-index-gt0, else-index-gt0}

pub loop-task-preserved : goal.loop-task-preserved
loop-task-preserved g c =
    let (run, more) = c.requires in
    let plan = c.args.plan.now in
    let r = c.args.self.now in
    let j = c.loop-task.task-index in
    let tasks = c.items-task-items.result.now in
    let t = get_or tasks j 0 in
    let batch_is : c.index-items-self.result ≡ batch_at plan r.released = c.index-items-self.is ∙ ap (λ (l : List Batch). get_or l r.released c.index-items-self.result) c.items.ensures.value ∙ get_or_default plan.batches r.released c.index-items-self.result no_batch more in
    let tasks_is : tasks ≡ (batch_at plan r.released).tasks = c.items-task-items.ensures.value ∙ ap (λ (b : Batch). b.tasks) batch_is in
    let small : j < length tasks = omega (arith, c.loop-task-test.true) in
    let named = rules.inside plan r.released j no_batch more (omega (arith, small, ap (length {A = ℕ}) tasks_is)) in
    let inside : t < length plan.diagram.tasks = omega (arith, named, ap (λ (l : List ℕ). get_or l j 0) tasks_is) in
    let read = get_or_read r.rest.items t c.index.result.now (omega (arith, inside, run.at.rests)) c.index.ensures 0 in
    elim c.if-index-gt0.branch [
      | then-index-gt0 w ↦
          subst (λ (o : Option ℕ). Worst plan tasks r.rest.items j t small refl inside (j + 1) o) (sym w.worst-is)
          (chooses plan tasks r.rest.items j t small refl inside c.loop-task.worst w.higher-worst.result (omega (arith, read, w.if-index-gt0.true)) c.loop-task.invariant w.higher-worst.ensures.choice w.higher-worst.ensures.some)
      | else-index-gt0 w ↦
          subst (λ (o : Option ℕ). Worst plan tasks r.rest.items j t small refl inside (j + 1) o) (sym w.worst-is)
          (skips plan tasks r.rest.items j t small refl inside c.loop-task.worst (omega (arith, read, w.if-index-gt0.false)) c.loop-task.invariant)
    ]
