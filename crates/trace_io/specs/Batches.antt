-- The batches of a diagram's tasks.
use Rattle.std.specs.Prelude.{◌≡◌, ◌≢◌, ℕ, ◌<◌, ◌≤◌, All, List, [], length, map, sum_by, slice_get, Some}
use Rattle.std.specs.List.Sorted.{IsStrictlyIncreasing}
use Rattle.dbp_plan.specs.declared.diagram.Diagram.{Diagram}
use Rattle.dbp_plan.specs.declared.diagram.Task.{Task}
use Rattle.dbp_plan.specs.declared.limits.TheConstants.{MAX_OCCURRENCES}
use Rattle.dbp_plan.specs.declared.schedule.Batch.{Batch}
use Rattle.dbp_plan.specs.declared.schedule.Sample.{Sample}
use Rattle.dbp_plan.specs.Clocks.{task_times}
use Rattle.dbp_plan.specs.Occurrences.{occurrence_count, times_of}

-- the times at which the task of the diagram occurs
abbrev pub times_in : Diagram → List Sample → List (List ℕ) → Task → List ℕ
times_in d samples events t = task_times d.until d.inputs samples events t

-- how often all tasks together occur
abbrev pub total_of : Diagram → List Sample → List (List ℕ) → ℕ
total_of d samples events = sum_by (λ t. length (times_in d samples events t)) d.tasks

-- each task occurs at exactly its times
pub record AreBatches (d : Diagram) (samples : List Sample) (events : List (List ℕ)) (batches : List Batch) : Type 0 where
  -- batches stand by time, a batch's tasks by declaration and so once each
  pub rising : IsStrictlyIncreasing (map (λ b. b.time) batches)
  pub in_order : All (λ b. IsStrictlyIncreasing b.tasks) batches
  pub some : All (λ b. b.tasks ≢ []) batches
  pub named : All (λ b. All (λ i. i < length d.tasks) b.tasks) batches
  pub ends : All (λ b. b.time < d.until) batches
  pub few : occurrence_count batches ≤ MAX_OCCURRENCES
  pub each : (i : ℕ) (t : Task) → slice_get d.tasks i ≡ Some t → times_of batches i ≡ times_in d samples events t
