-- The row of an instance that has just ended.
use Rattle.std.proofs.Common.{◌≡◌, ℕ, ℤ, ◌+◌, ◌<◌, ◌^◌, List, ◌++◌, length, set, slice_get, Some, sym, ap, ◌∙◌, subst, arith}
use Rattle.std.proofs.Math.Logic.{∥∥₁_elim}
use Rattle.std.proofs.Props.{props}
use Rattle.dbp_plan.specs.declared.limits.TheConstants.{MAX_OCCURRENCES}
use Rattle.dbp_plan.specs.declared.plan.Plan.{Plan}
use Rattle.dbp_plan.specs.declared.table.Table.{Table}
use Rattle.dbp_plan.specs.declared.table.TaskRows.{TaskRows}
use Rattle.dbp_plan.specs.Lookups.{declared_task}
use Rattle.dbp_plan.specs.Table.{HasRowsOf, table_row}
use Rattle.sync_meaning.specs.SomeMeaning.{meaning_of}
use Rattle.sync_meaning.proofs.Tables.{row_fits}
use Rattle.dbp_rules.specs.Lookups.{task, task_entry, wired_task}
use Rattle.dbp_rules.specs.Shapes.{IsTaskWired, TaskShape, running_count}
use Rattle.dbp_rules.specs.SoundParts.{last_shut, shut_by}
use Rattle.dbp_rules.specs.declared.parts.Place.TheVariants as place
use Rattle.instance_steps.specs.EndedRows.{HasEndedRows}
use Rattle.instance_steps.specs.Events.{Event}
use Rattle.instance_steps.specs.Recorders.{plan_in, state_in, table_in, wiring_in}
use Rattle.instance_steps.specs.TaskPieces.{AddsPiece}
use Rattle.instance_steps.specs.declared.recorder.Recorder.{Recorder}
use Rattle.instance_steps.proofs.Adding.{own_in, wired_there}
use Rattle.instance_steps.proofs.RowsKept.{ended_rows_grow}

module _ (a b : Recorder) (i : ℕ) (us : List Event) (piece : AddsPiece a b us i ((task (state_in a) i).part.ended + 1) place.Idle) (named : i < length (plan_in a).diagram.tasks)
    (has : HasEndedRows (plan_in a) (state_in a) (table_in a)) (same : table_in b ≡ table_in a) where
  named_b : i < length (plan_in b).diagram.tasks
  named_b = subst (λ (p : Plan). i < length p.diagram.tasks) (sym piece.steps.plan) named

  has_b : HasEndedRows (plan_in b) (state_in a) (table_in b)
  has_b = subst (λ (p : Plan). HasEndedRows p (state_in a) (table_in b)) (sym piece.steps.plan) (subst (λ (t : Table). HasEndedRows (plan_in a) (state_in a) t) (sym same) has)

  wired_b : IsTaskWired (plan_in b) (wiring_in b) i (wired_task (wiring_in b) i)
  wired_b = (own_in b).whole.each_task i (wired_there b i named_b)

  shape_b : TaskShape (wiring_in b) (declared_task (plan_in b) i) i (task_entry (state_in b) i).aimed (task (state_in b) i)
  shape_b = b.core.shape.each_task i (wired_there b i named_b)

  -- the task has rows
  pub rows_there : i < length (table_in b).tasks
  rows_there = omega (arith, named_b, has_b.size)

  few : (task (state_in a) i).part.ended < MAX_OCCURRENCES
  few =
      omega
      (arith, piece.changes.ended, ap running_count piece.changes.place, shape_b.gate, shape_b.aimed, b.core.shape.aimed i (wired_there b i named_b), (own_in b).whole.releases.aims_times (state_in b).releaser.place i, wired_b.few, ap length wired_b.times)

  module _ (row : List ℤ) (is : row ≡ (task (state_in b) i).work.row) (old : TaskRows) (at : slice_get (table_in b).tasks i ≡ Some old) where
    wide : length row ≡ length (declared_task (plan_in b) i).outs
    wide = ap length is ∙ shape_b.row

    pub row_room : length old.words + length row < 2 ^ 32
    row_room =
        let own : HasRowsOf (length (declared_task (plan_in b) i).outs) (task (state_in a) i).part.ended old = has_b.each i old named_b at in
        omega (arith, row_fits (length (declared_task (plan_in b) i).outs) (task (state_in a) i).part.ended old own wired_b.closed.outs.1 few, wide, wired_b.closed.outs.1)

    meant : row ≡ table_row (meaning_of (plan_in b)) i ((task (state_in a) i).part.ended + 1)
    meant =
        let shut : last_shut (task (state_in b) i) ≡ (task (state_in a) i).part.ended + 1 = omega (arith, piece.changes.ended, ap shut_by piece.changes.place) in
        is ∙ ∥∥₁_elim b.core.sound (hlevel props) (λ sound. (sound.tasks i (wired_there b i named_b)).row) ∙ ap (λ (n : ℕ). table_row (meaning_of (plan_in b)) i n) shut

    pub row_gained : (more : TaskRows) (later : Table) → more.ports ≡ old.ports → more.words ≡ old.words ++ row → later.tasks ≡ set (table_in b).tasks i more → HasEndedRows (plan_in b) (state_in b) later
    row_gained more later ports words all = ended_rows_grow (plan_in b) (state_in a) (state_in b) (table_in b) later i old more row place.Idle named_b has_b piece.changes at ports words all meant wide
