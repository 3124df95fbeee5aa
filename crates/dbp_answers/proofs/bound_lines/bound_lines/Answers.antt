use Rattle.std.proofs.Common.{◌≡◌, ℕ, ◌<◌, ◌++◌, List, length, get_or, ap, sym, ◌∙◌, arith}
use Rattle.std.specs.Prelude.{slice_index_or}
use Rattle.std.proofs.lemmas.List.{get_or_default}
use Rattle.dbp_plan.specs.declared.diagram.Task.{Task}
use Rattle.rta_check.specs.declared.bound.Bound.TheVariants.{At, Beyond}
use Rattle.rta_check.specs.Periods.{period_of}
use Rattle.dbp_answers.specs.BoundLines.{bound_line}
use Rattle.dbp_answers.proofs.TaskLineLaws.{lines_all, lines_more}
use Rattle.dbp_answers.proofs.bound_lines.bound_lines.Goals as goal

pub loop-i-preserved : goal.loop-i-preserved
loop-i-preserved c =
    let d = c.args.diagram.now in
    let bounds = c.args.bounds.now in
    let below : c.loop-i.i < length d.tasks = rw c.items-task-items.ensures.value at c.loop-i-test.true in
    let is : c.task-item.result ≡ get_or d.tasks c.loop-i.i c.task-item.result = rw c.items-task-items.ensures.value at c.task-item.is in
    let line : ℕ → Task → List ℕ = λ i task. bound_line task.name (slice_index_or bounds i Beyond) (period_of task.clock) in
    let bound : slice_index_or bounds c.loop-i.i (At 0) ≡ slice_index_or bounds c.loop-i.i Beyond = get_or_default bounds c.loop-i.i (At 0) Beyond (omega (arith, below, c.requires)) in
    c.in_ok-push_line.ensures
    ∙ ap (λ (text : List ℕ). text ++ bound_line c.bytes.result.now (slice_index_or bounds c.loop-i.i (At 0)) c.period_of.result) c.loop-i.invariant
    ∙ rw (c.bytes.ensures.value, bound, c.period_of.ensures) (sym (lines_more line d c.loop-i.i c.task-item.result below is))

pub returns : goal.returns
returns c = c.loop-i.invariant ∙ lines_all (λ i task. bound_line task.name (slice_index_or c.args.bounds.now i Beyond) (period_of task.clock)) c.args.diagram.now c.loop-i.i (omega (arith, ap length c.items-task-items.ensures.value))
