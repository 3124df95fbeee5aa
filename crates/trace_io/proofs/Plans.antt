-- What makes a document's ranked diagram, the samples of its trace and its batches a plan.
use Rattle.std.proofs.Common.{◌≡◌, ◌≤◌, ◌<◌, ℕ, All, AllPairs, List, Some, length, get_or, slice_get, refl, ◌∙◌, ap}
use Rattle.std.specs.Prelude.{IsTrue, filter}
use Rattle.std.proofs.lemmas.Option.{slice_get-get_or}
use Rattle.dbp_plan.specs.declared.diagram.Clock.{Clock}
use Rattle.dbp_plan.specs.declared.diagram.Clock.TheVariants.{Every, On}
use Rattle.dbp_plan.specs.declared.diagram.Diagram.{Diagram}
use Rattle.dbp_plan.specs.declared.diagram.Task.{Task}
use Rattle.dbp_plan.specs.declared.schedule.Batch.{Batch}
use Rattle.dbp_plan.specs.declared.schedule.Sample.{Sample}
use Rattle.dbp_plan.specs.Clocks.{base_times, is_on}
use Rattle.dbp_plan.specs.Closed.{IsClosed, IsClosedTask}
use Rattle.dbp_plan.specs.ListItems.{all_place}
use Rattle.dbp_plan.specs.Ranked.{IsRanked}
use Rattle.dbp_plan.specs.Plan.{IsPlan}
use Rattle.dbp_plan.specs.Samples.{is_before}
use Rattle.trace_io.specs.Batches.{AreBatches}
use Rattle.trace_io.specs.Counts.{IsClockOf}

clock_fits : (events : ℕ) (c : Clock) → ((period offset : ℕ) → c ≡ Every period offset → (1 ≤ period) × (period ≤ 1000000000) × (offset ≤ 1000000000)) → ((event : ℕ) → c ≡ On event → event < events) → IsClockOf events c
clock_fits events (Every period offset) periodic on_event = periodic period offset refl
clock_fits events (On event) periodic on_event = on_event event refl

pub clock_fits_at : (d : Diagram) → IsClosed d → (i : ℕ) (t : Task) → slice_get d.tasks i ≡ Some t → IsClockOf (length d.events) t.clock
clock_fits_at d closed i t at =
    let fits : IsClosedTask (length d.inputs) (length d.events) (length d.links) t = all_place (IsClosedTask (length d.inputs) (length d.events) (length d.links)) d.tasks i t closed.each at in
    clock_fits (length d.events) t.clock fits.periodic fits.on_event

pub clocks_fit : (d : Diagram) → IsClosed d → All (λ t. IsClockOf (length d.events) t.clock) d.tasks
clocks_fit d closed k t below = clock_fits_at d closed k (get_or d.tasks k t) (slice_get-get_or d.tasks k t below)

-- the input of its `when` is there
pub input_at : (d : Diagram) → IsClosed d → (i : ℕ) (t : Task) (input : ℕ) → slice_get d.tasks i ≡ Some t → t.when ≡ Some input → input < length d.inputs
input_at d closed i t input at is = (all_place (IsClosedTask (length d.inputs) (length d.events) (length d.links)) d.tasks i t closed.each at).when input is

pub plan_from : (d : Diagram) (events : List (List ℕ)) (samples : List Sample) (batches : List Batch) → IsRanked d → AreBatches d samples events batches
    → AllPairs (λ a b. IsTrue (is_before a b)) samples → All (λ s. s.input < length d.inputs) samples → IsPlan d samples batches
plan_from d events samples batches ranked made in_order named = record {
  ranked = ranked;
  rising = made.rising;
  in_order = made.in_order;
  some = made.some;
  named = made.named;
  ends = made.ends;
  few = made.few;
  periodic = λ i period offset t is_task is_clock.
      made.each i t is_task ∙ ap (λ (c : Clock). filter (is_on d.inputs samples t.when) (base_times d.until events c)) is_clock;
  sample_order = in_order;
  sampled = named;
}
