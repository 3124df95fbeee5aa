-- What a run keeps.
use Rattle.std.specs.Prelude.{◌≡◌, ℕ, ◌+◌, ◌<◌, ◌≤◌, List, length, slice_get, take, Some}
use Rattle.dbp_plan.specs.declared.diagram.Diagram.{Diagram}
use Rattle.dbp_plan.specs.declared.diagram.Task.{Task}
use Rattle.dbp_plan.specs.declared.schedule.Batch.{Batch}
use Rattle.dbp_plan.specs.declared.schedule.Sample.{Sample}
use Rattle.dbp_plan.specs.declared.table.TaskRows.{TaskRows}
use Rattle.dbp_plan.specs.Occurrences.{count_until, times_of}
use Rattle.dbp_plan.specs.Table.{HasRowsOf}
use Rattle.sync_meaning.specs.Shape.{HasEnvs}
use Rattle.sync_meaning.specs.Streams.{IsStreamTo}
use Rattle.sync_meaning.specs.Taken.{AreValuesAt}
use Rattle.sync_meaning.specs.declared.env.Env.{Env}
use Rattle.sync_meaning.specs.declared.run.Run.{Run}

-- each task has its rows up to the instances that are computed
pub record HasRowsUpTo (tasks : List Task) (done : List ℕ) (table : List TaskRows) : Type 0 where
  pub size : length table ≡ length tasks
  pub counts : length done ≡ length tasks
  pub each : (i n : ℕ) (t : Task) (rows : TaskRows) → slice_get tasks i ≡ Some t → slice_get done i ≡ Some n → slice_get table i ≡ Some rows → HasRowsOf (length t.outs) n rows

-- of each task that has so many occurrences all instances but at most the last are computed, and above the rank the last too
pub record IsDoneAbove (rank : ℕ) (ranks named done : List ℕ) : Type 0 where
  pub size : length named ≡ length ranks
  pub counts : length done ≡ length ranks
  pub each : (i m n : ℕ) → slice_get done i ≡ Some m → slice_get named i ≡ Some n → (m ≤ n) × (n ≤ m + 1)
  pub above : (i m n r : ℕ) → slice_get ranks i ≡ Some r → r < rank → slice_get done i ≡ Some m → slice_get named i ≡ Some n → m ≡ n

-- the run, as far as the ranks above this one are computed
pub record IsRun (d : Diagram) (rank : ℕ) (run : Run) : Type 0 where
  pub inputs : length run.inputs.values.items ≡ length d.inputs
  pub envs : HasEnvs d.tasks run.envs.items
  pub rows : HasRowsUpTo d.tasks run.done.items run.table.tasks
  pub steps : IsDoneAbove rank d.ranks run.named.items run.done.items

-- each task's equations hold for the instances that are computed, and its states are those after them
pub record HasStreams (d : Diagram) (samples : List Sample) (batches : List Batch) (run : Run) : Type 0 where
  pub each : (i m : ℕ) (t : Task) (e : Env) → slice_get d.tasks i ≡ Some t → slice_get run.done.items i ≡ Some m → slice_get run.envs.items i ≡ Some e → IsStreamTo d samples batches run.table i t m (take (length t.states) e.now)

-- the inputs and the occurrences are those of a time, and the instances that are named and not yet computed occur then
pub record IsAtTime (d : Diagram) (samples : List Sample) (batches : List Batch) (run : Run) : Type 0 where
  pub time : ℕ
  pub inputs : AreValuesAt d.inputs samples time run.inputs.values.items
  pub counts : (i n : ℕ) → slice_get run.named.items i ≡ Some n → n ≡ count_until (times_of batches i) time
  pub due : (i m n : ℕ) → slice_get run.done.items i ≡ Some m → slice_get run.named.items i ≡ Some n → m < n → slice_get (times_of batches i) m ≡ Some time
