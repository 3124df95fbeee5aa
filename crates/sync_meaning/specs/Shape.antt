-- Sizes of environments, rows and counts.
use Rattle.std.specs.Prelude.{◌≡◌, ℕ, ℤ, ◌+◌, ◌<◌, ◌≤◌, ◌⊎◌, if◌then◌else◌, List, length, map, slice_get, take, Some}
use Rattle.dbp_plan.specs.declared.diagram.Task.{Task}
use Rattle.dbp_plan.specs.declared.diagram.Link.{Link}
use Rattle.dbp_plan.specs.declared.diagram.Read.{Read}
use Rattle.dbp_plan.specs.declared.schedule.Batch.{Batch}
use Rattle.dbp_plan.specs.declared.table.Table.{Table}
use Rattle.dbp_plan.specs.Closed.{place_count}
use Rattle.dbp_plan.specs.Occurrences.{names, times_of}
use Rattle.sync_meaning.specs.declared.env.Env.{Env}
use Rattle.sync_meaning.specs.Meaning.{IsRead}

-- the environment has a value for each place of the task's, and one for each state
pub record IsEnvOf (task : Task) (env : Env) : Type 0 where
  pub now : length env.now ≡ place_count task
  pub later : length env.later ≡ length task.states

pub record HasEnvs (tasks : List Task) (envs : List Env) : Type 0 where
  pub size : length envs ≡ length tasks
  pub each : (i : ℕ) (t : Task) (e : Env) → slice_get tasks i ≡ Some t → slice_get envs i ≡ Some e → IsEnvOf t e

-- in each task's environment the states have their first values
abbrev pub HasFirstStates : List Task → List Env → Type 0
HasFirstStates tasks envs = (i : ℕ) (t : Task) (e : Env) → slice_get tasks i ≡ Some t → slice_get envs i ≡ Some e → take (length t.states) e.now ≡ map (λ s. s.first) t.states

-- the places from the base on hold a value for each item that fits it, and all other values stayed
pub record AreWritten {X : Type 0} (base : ℕ) (items : List X) (fits : X → ℤ → Type 0) (before after : List ℤ) : Type 0 where
  pub size : length after ≡ length before
  pub written : (k : ℕ) (x : X) (value : ℤ) → slice_get items k ≡ Some x → slice_get after (base + k) ≡ Some value → fits x value
  pub kept : (j : ℕ) → (j < base) ⊎ (base + length items ≤ j) → slice_get after j ≡ slice_get before j

-- the row that the read goes back to is there
abbrev pub IsReadable : List Link → (ℕ → ℕ) → Table → Read → Type 0
IsReadable links occurred table read = (value : ℤ) × IsRead links occurred table read value

-- the counts are one more for each task of the batch
pub record IsMarked (batch : Batch) (before after : List ℕ) : Type 0 where
  pub size : length after ≡ length before
  pub each : (i n : ℕ) → slice_get before i ≡ Some n → slice_get after i ≡ Some (n + (if names i batch then 1 else 0))

-- the counts are those of these batches
pub record AreCounted (batches : List Batch) (named : List ℕ) : Type 0 where
  pub each : (i n : ℕ) → slice_get named i ≡ Some n → n ≡ length (times_of batches i)

-- the batch is the next one after those that are counted
pub record IsNextBatch (batches : List Batch) (batch : Batch) (named : List ℕ) : Type 0 where
  pub place : ℕ
  pub is : slice_get batches place ≡ Some batch
  pub counted : AreCounted (take place batches) named
