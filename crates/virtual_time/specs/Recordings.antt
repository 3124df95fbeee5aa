-- What a simulation keeps of the protocol: it stands where the time has it.
use Rattle.std.specs.Prelude.{◌≡◌, ℕ, ◌-◌, ◌<◌, ◌==◌, ◌||◌, if◌then◌else◌, IfSome, List, [], length, slice_index, slice_index_or}
use Rattle.dbp_plan.specs.declared.plan.Plan.{Plan}
use Rattle.dbp_plan.specs.Lookups.{declared_task}
use Rattle.dbp_rules.specs.Lookups.{task, task_entry}
use Rattle.dbp_rules.specs.Start.{start_of}
use Rattle.dbp_rules.specs.Wired.{wiring_of}
use Rattle.dbp_rules.specs.declared.parts.Place.{Place}
use Rattle.dbp_rules.specs.declared.parts.Place.TheVariants.{Idle}
use Rattle.dbp_rules.specs.declared.step.Count.{Count}
use Rattle.dbp_rules.specs.declared.step.Step.{Step}
use Rattle.instance_steps.specs.EndedRows.{HasEndedRows}
use Rattle.instance_steps.specs.Events.{Event}
use Rattle.instance_steps.specs.Plays.{Plays}
use Rattle.instance_steps.specs.Recorders.{plan_in, record_in, state_in, table_in, wiring_in}
use Rattle.instance_steps.specs.Releases.{HasReleased}
use Rattle.instance_steps.specs.TaskPieces.{place_after}
use Rattle.instance_steps.specs.declared.recorder.Recorder.{Recorder}
use Rattle.virtual_time.specs.State.{release_count}

-- where the task stands if this is left of its last released instance: idle if nothing is, or if all is
abbrev pub place_of : Plan → ℕ → ℕ → Place
place_of p i rest =
    if (rest == 0) || (rest == (declared_task p i).cost) then Idle
    else place_after p i ((declared_task p i).cost - rest)

-- under the count, some steps play the events, from the start, and are those that are kept, if any are; the first b batches
-- are released, the tasks have ended so many instances and stand at these places
pub record IsRecorded (p : Plan) (count : Count) (b : ℕ) (events : List Event) (places : ℕ → Place) (ends : List (List ℕ))
    (r : Recorder) : Type 0 where
  pub plan : plan_in r ≡ p
  pub wiring : wiring_in r ≡ wiring_of p count
  pub steps : List Step
  pub plays : Plays p (wiring_of p count) (start_of p (wiring_of p count)) events steps (state_in r)
  pub kept : IfSome (record_in r) (λ kept. kept ≡ steps)
  pub rows : HasEndedRows p (state_in r) (table_in r)
  pub released : HasReleased p (state_in r) b
  pub aimed : (i : ℕ) → i < length p.diagram.tasks
      → (task_entry (state_in r) i).aimed ≡ release_count p.batches b i
  pub gates : (i : ℕ) → i < length p.diagram.tasks
      → (task (state_in r) i).words.gate ≡ release_count p.batches b i
  pub ended : (i : ℕ) → i < length p.diagram.tasks
      → (task (state_in r) i).part.ended ≡ length (slice_index_or ends i [])
  pub place : (i : ℕ) → i < length p.diagram.tasks → (task (state_in r) i).part.place ≡ places i

-- the places of all tasks but one, which stands at this place
abbrev pub places_with : Plan → List ℕ → ℕ → Place → ℕ → Place
places_with p rest i place j = if j == i then place else place_of p j (slice_index rest j)
