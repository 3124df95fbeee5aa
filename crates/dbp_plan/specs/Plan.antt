-- What a plan keeps.
use Rattle.std.specs.Prelude.{◌≡◌, ◌≢◌, ℕ, ◌<◌, ◌≤◌, All, AllPairs, IsTrue, List, [], filter, length, map, slice_get, Some}
use Rattle.std.specs.List.Sorted.{IsStrictlyIncreasing}
use Rattle.dbp_plan.specs.declared.limits.TheConstants.{MAX_OCCURRENCES}
use Rattle.dbp_plan.specs.declared.diagram.Clock.TheVariants.{Every}
use Rattle.dbp_plan.specs.declared.diagram.Diagram.{Diagram}
use Rattle.dbp_plan.specs.declared.diagram.Task.{Task}
use Rattle.dbp_plan.specs.declared.schedule.Batch.{Batch}
use Rattle.dbp_plan.specs.declared.schedule.Sample.{Sample}
use Rattle.dbp_plan.specs.Clocks.{is_on, periodic_times}
use Rattle.dbp_plan.specs.Occurrences.{times_of, occurrence_count}
use Rattle.dbp_plan.specs.Ranked.{IsRanked}
use Rattle.dbp_plan.specs.Samples.{is_before}

-- the diagram is ranked, its batches are those of its periodic tasks and of the occurrences of tasks on events, and its samples stand in order
pub record IsPlan (d : Diagram) (samples : List Sample) (batches : List Batch) : Type 0 where
  pub ranked : IsRanked d
  -- batches stand by time, a batch's tasks by declaration and so once each
  pub rising : IsStrictlyIncreasing (map (λ b. b.time) batches)
  pub in_order : All (λ b. IsStrictlyIncreasing b.tasks) batches
  pub some : All (λ b. b.tasks ≢ []) batches
  pub named : All (λ b. All (λ i. i < length d.tasks) b.tasks) batches
  pub ends : All (λ b. b.time < d.until) batches
  pub few : occurrence_count batches ≤ MAX_OCCURRENCES
  -- a periodic task occurs at exactly those times of its clock at which the input of its `when` isn't 0
  pub periodic : (i period offset : ℕ) (t : Task) → slice_get d.tasks i ≡ Some t → t.clock ≡ Every period offset → times_of batches i ≡ filter (is_on d.inputs samples t.when) (periodic_times d.until period offset)
  pub sample_order : AllPairs (λ a b. IsTrue (is_before a b)) samples
  pub sampled : All (λ s. s.input < length d.inputs) samples
