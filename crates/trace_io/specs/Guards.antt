-- What is handed to the merge for tasks with a `when`.
use Rattle.std.specs.Prelude.{◌≡◌, ℕ, ◌<◌, ◌≤◌, ◌==◌, if◌then◌else◌, All, List, [], ◌∷◌, length, slice_get, slice_index_or, Some}
use Rattle.std.specs.Option.{ForSome}
use Rattle.std.specs.List.Sorted.{IsNonDecreasingBy}
use Rattle.dbp_plan.specs.declared.diagram.Task.{Task}
use Rattle.dbp_plan.specs.declared.schedule.Sample.{Sample}
use Rattle.dbp_plan.specs.Samples.{own_samples}

-- the samples of the input that the task's `when` names, if it has one, are these
abbrev pub HasItsSamples : List Sample → List (List Sample) → Task → Type 0
HasItsSamples samples own t = ForSome t.when (λ input. slice_index_or own input [] ≡ own_samples input samples)

-- the samples of each of so many inputs: a single input has all of them, and several have these lists
abbrev pub own_lists : ℕ → List Sample → List (List Sample) → List (List Sample)
own_lists inputs samples lists = if inputs == 1 then samples ∷ [] else lists

-- each list of samples stands by time
abbrev pub RiseInTime : List (List Sample) → Type 0
RiseInTime own = All (IsNonDecreasingBy (λ s. s.time)) own

-- the tasks at these places have one clock and one `when`
abbrev pub AreAlike : List Task → ℕ → ℕ → Type 0
AreAlike tasks i j = (a b : Task) → slice_get tasks i ≡ Some a → slice_get tasks j ≡ Some b → (a.clock ≡ b.clock) × (a.when ≡ b.when)

-- the times of the events, and of some more events after them
pub record HasMoreEvents (events more : List (List ℕ)) : Type 0 where
  pub longer : length events ≤ length more
  pub same : (event : ℕ) → event < length events → slice_index_or more event [] ≡ slice_index_or events event []
