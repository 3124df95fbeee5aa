-- What a piece of a task's instance needs, and what it changes.
use Rattle.std.specs.Prelude.{◌≡◌, ◌≢◌, ℕ, ◌<◌, List, count_by, length, nat_lt, slice_index_or}
use Rattle.dbp_plan.specs.declared.plan.Plan.{Plan}
use Rattle.dbp_plan.specs.Lookups.{declared_task, no_read}
use Rattle.dbp_rules.specs.Moves.{read_place}
use Rattle.dbp_rules.specs.Lookups.{task, task_entry, wired_task}
use Rattle.dbp_rules.specs.Promises.{IsClaimFilled}
use Rattle.dbp_rules.specs.Rules.{own_time}
use Rattle.dbp_rules.specs.Wired.{turn_of}
use Rattle.dbp_rules.specs.declared.parts.Place.{Place}
use Rattle.dbp_rules.specs.declared.state.State.{State}
use Rattle.dbp_rules.specs.declared.step.Count.TheVariants.{All, Ranked}
use Rattle.dbp_rules.specs.declared.wiring.Wiring.{Wiring}
use Rattle.instance_steps.specs.Events.{Event}
use Rattle.instance_steps.specs.Recorders.{AddsSteps, state_in}
use Rattle.instance_steps.specs.declared.recorder.Recorder.{Recorder}

-- under `Ranked`: each task ranked above has ended all its aimed instances, or its next is later than the task's own
abbrev pub MayStep : Wiring → State → ℕ → Type 0
MayStep w s i = w.count ≡ Ranked → (r : ℕ) → r < length w.tasks → (wired_task w r).rank < (wired_task w i).rank
    → (task s r).part.ended < (task_entry s r).aimed → own_time w s i < own_time w s r

-- where an instance stands that was served so many ticks: after the reads of earlier ticks
abbrev pub place_after : Plan → ℕ → ℕ → Place
place_after p i served = read_place (length (declared_task p i).reads) (count_by (λ r. nat_lt r.at served) (declared_task p i).reads)

-- the turn of the read with this number
abbrev pub turn_in : Plan → ℕ → ℕ → ℕ
turn_in p i r = turn_of (declared_task p i).reads (r, slice_index_or (declared_task p i).reads r no_read)

-- under `All`: the writers have filled the rows that are read after so many ticks; under `Ranked` they always have
abbrev pub HasRowsToRead : Plan → Wiring → State → ℕ → ℕ → Type 0
HasRowsToRead p w s i served = w.count ≡ All → (r : ℕ) → r < length (declared_task p i).reads
    → (slice_index_or (declared_task p i).reads r no_read).at ≡ served
    → IsClaimFilled w s (slice_index_or (declared_task p i).reads r no_read).link

-- only the task has changed: it has ended so many instances, and stands at the place; its gate is as it was
pub record ChangesTask (s new : State) (i instances : ℕ) (next : Place) : Type 0 where
  pub releaser : new.releaser ≡ s.releaser
  pub orders : new.orders ≡ s.orders
  pub others : (j : ℕ) → j ≢ i → task new j ≡ task s j
  pub gate : (task new i).words.gate ≡ (task s i).words.gate
  pub ended : (task new i).part.ended ≡ instances
  pub place : (task new i).part.place ≡ next

-- a piece of the task's instance: its events are made, and only the task has changed
pub record AddsPiece (old new : Recorder) (events : List Event) (i instances : ℕ) (next : Place) : Type 0 where
  pub steps : AddsSteps old new events
  pub changes : ChangesTask (state_in old) (state_in new) i instances next
