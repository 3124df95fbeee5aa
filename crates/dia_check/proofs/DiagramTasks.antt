-- The tasks of a diagram and those of its document, place by place.
use Rattle.std.proofs.Common.{◌≡◌, ℕ, slice_get, Some, arith}
use Rattle.std.proofs.lemmas.Option.{slice_get_within}
use Rattle.dbp_plan.specs.declared.diagram.Diagram.{Diagram}
use Rattle.dbp_plan.specs.declared.diagram.Task.{Task}
use Rattle.dbp_plan.specs.ListItems.{at_place}
use Rattle.dia_read.specs.declared.document.Body.{Body}
use Rattle.dia_read.specs.declared.document.RawTask.{RawTask}
use Rattle.dia_check.specs.Diagrams.{IsDiagramOf}

module _ (body : Body) (d : Diagram) (is : IsDiagramOf body d) where
  pub raw-at : (i : ℕ) (t : Task) → slice_get d.tasks i ≡ Some t → (raw : RawTask) × (slice_get body.tasks i ≡ Some raw)
  raw-at i t at = at_place body.tasks i (omega (arith, slice_get_within d.tasks i t at, is.count))

  pub task-at : (i : ℕ) (raw : RawTask) → slice_get body.tasks i ≡ Some raw → (t : Task) × (slice_get d.tasks i ≡ Some t)
  task-at i raw at = at_place d.tasks i (omega (arith, slice_get_within body.tasks i raw at, is.count))
