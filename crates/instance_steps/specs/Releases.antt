-- What the release of a batch changes.
use Rattle.std.specs.Prelude.{◌≡◌, ℕ, ◌+◌, ◌<◌, true, false, List, [], length, slice_index_or, take}
use Rattle.dbp_plan.specs.declared.plan.Plan.{Plan}
use Rattle.dbp_plan.specs.declared.schedule.Batch.{Batch}
use Rattle.dbp_plan.specs.Occurrences.{names, times_of}
use Rattle.release_list.specs.Releases.{batch_start}
use Rattle.dbp_rules.specs.Lookups.{task, task_entry}
use Rattle.dbp_rules.specs.declared.state.State.{State}
use Rattle.instance_steps.specs.Events.{Event}
use Rattle.instance_steps.specs.Recorders.{AddsSteps, plan_in, state_in}
use Rattle.instance_steps.specs.declared.recorder.Recorder.{Recorder}

abbrev pub no_batch : Batch
no_batch = record { time = 0; tasks = [] }

-- the batch with this number
abbrev pub batch_at : Plan → ℕ → Batch
batch_at p number = slice_index_or p.batches number no_batch

abbrev pub batch_in : Recorder → ℕ → Batch
batch_in r number = batch_at (plan_in r) number

-- so many batches are released: all their actions are made
abbrev pub HasReleased : Plan → State → ℕ → Type 0
HasReleased p s number = s.releaser.place ≡ batch_start p.diagram.links p.batches number

-- all aimed instances of the batch's tasks have ended
abbrev pub HasEnded : State → Batch → Type 0
HasEnded s batch = (i : ℕ) → names i batch ≡ true → (task s i).part.ended ≡ (task_entry s i).aimed

-- One more batch is released. Of each task so many instances are aimed and may start as the batches so far name it; of
-- a task of the batch all earlier ones are known to have ended. What the tasks have for themselves is as it was.
pub record ReleasesBatch (p : Plan) (s new : State) (number : ℕ) (batch : Batch) : Type 0 where
  pub released : HasReleased p new (number + 1)
  pub parts : (i : ℕ) → (task new i).part ≡ (task s i).part
  pub aimed : (i : ℕ) → i < length p.diagram.tasks → (task_entry new i).aimed ≡ length (times_of (take (number + 1) p.batches) i)
  pub gates : (i : ℕ) → i < length p.diagram.tasks → (task new i).words.gate ≡ length (times_of (take (number + 1) p.batches) i)
  pub known : (i : ℕ) → i < length p.diagram.tasks → names i batch ≡ true → (task_entry new i).known ≡ (task s i).part.ended
  pub others : (i : ℕ) → names i batch ≡ false → task_entry new i ≡ task_entry s i

-- only the releaser has stepped, and this action is its next one: what the tasks have for themselves, and how many
-- instances have ended, is as it was
pub record MovesReleaser (s new : State) (action : ℕ) : Type 0 where
  pub place : new.releaser.place ≡ action
  pub parts : (i : ℕ) → (task new i).part ≡ (task s i).part
  pub ended : (i : ℕ) → (task new i).words.ended ≡ (task s i).words.ended

-- a part of a release: its events are made, and only the releaser has stepped
pub record AddsRelease (old new : Recorder) (events : List Event) (action : ℕ) : Type 0 where
  pub steps : AddsSteps old new events
  pub moves : MovesReleaser (state_in old) (state_in new) action
