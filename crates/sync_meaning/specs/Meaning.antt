-- The zero-time meaning of a plan: equations on whole streams, with no order of evaluation.
use Rattle.std.specs.Prelude.{◌≡◌, ◌≢◌, ℕ, ℤ, ◌+◌, ◌-◌, ◌<◌, All, List, length, map, slice_get, Some}
use Rattle.dbp_plan.specs.declared.diagram.Diagram.{Diagram}
use Rattle.dbp_plan.specs.declared.diagram.Task.{Task}
use Rattle.dbp_plan.specs.declared.diagram.Link.{Link}
use Rattle.dbp_plan.specs.declared.diagram.Sense.{Sense}
use Rattle.dbp_plan.specs.declared.diagram.Read.{Read}
use Rattle.dbp_plan.specs.declared.diagram.Let.{Let}
use Rattle.dbp_plan.specs.declared.diagram.Next.{Next}
use Rattle.dbp_plan.specs.declared.schedule.Batch.{Batch}
use Rattle.dbp_plan.specs.declared.schedule.Sample.{Sample}
use Rattle.dbp_plan.specs.declared.table.Table.{Table}
use Rattle.dbp_plan.specs.Closed.{let_base, place_count}
use Rattle.dbp_plan.specs.Occurrences.{times_of, count_until}
use Rattle.dbp_plan.specs.Samples.{input_value}
use Rattle.dbp_plan.specs.Table.{IsRow, HasAllRows}
use Rattle.expr_eval.specs.Values.{value_of}

-- What a read gives if the tasks have occurred so often: the value of its port in the row of the writer's last
-- instance, or as many instances before that as the link's delay. If the writer had no such instance, the row is
-- that of first values.
pub record IsRead (links : List Link) (occurred : ℕ → ℕ) (table : Table) (read : Read) (value : ℤ) : Type 0 where
  pub link : Link
  pub has_link : slice_get links read.link ≡ Some link
  pub row : List ℤ
  pub is_row : IsRow table link.writer (occurred link.writer - link.delay) row
  pub has_value : slice_get row read.port ≡ Some value

-- each let has the value of its expression in the environment that it stands in
abbrev pub HasLets : Task → List ℤ → Type 0
HasLets task env = (k : ℕ) (l : Let) → slice_get task.lets k ≡ Some l → slice_get env (let_base task + k) ≡ Some (value_of l.expr env)

-- the environment of an instance of the task at the time, from the states before it
pub record IsEnv (d : Diagram) (samples : List Sample) (batches : List Batch) (table : Table) (task : Task) (time : ℕ) (states env : List ℤ) : Type 0 where
  pub size : length env ≡ place_count task
  pub state : (k : ℕ) (value : ℤ) → slice_get states k ≡ Some value → slice_get env k ≡ Some value
  pub sense : (k : ℕ) (s : Sense) → slice_get task.senses k ≡ Some s → slice_get env (length task.states + k) ≡ Some (input_value d.inputs samples s.input time)
  pub read : (k : ℕ) (r : Read) (value : ℤ) → slice_get task.reads k ≡ Some r → slice_get env (length task.states + length task.senses + k) ≡ Some value → IsRead d.links (λ w. count_until (times_of batches w) time) table r value
  pub lets : HasLets task env

-- the states after an instance with this environment: one without a `next` keeps its value
pub record AreStatesAfter (task : Task) (env before after : List ℤ) : Type 0 where
  pub size : length after ≡ length before
  pub next : (k : ℕ) (n : Next) → slice_get task.nexts k ≡ Some n → slice_get after n.state ≡ Some (value_of n.expr env)
  pub kept : (j : ℕ) → All (λ n. n.state ≢ j) task.nexts → slice_get after j ≡ slice_get before j

-- the values of the outs in the environment
abbrev pub outs_in : Task → List ℤ → List ℤ
outs_in task env = map (λ o. value_of o.expr env) task.outs

-- The rows of task i, by equations on its states and environments. Row n + 1 is that of the instance at place n of its
-- times, and `states n` stand before that instance.
pub record IsStream (d : Diagram) (samples : List Sample) (batches : List Batch) (table : Table) (i : ℕ) (task : Task) : Type 0 where
  pub states : ℕ → List ℤ
  pub envs : ℕ → List ℤ
  pub first_states : states 0 ≡ map (λ s. s.first) task.states
  pub first_row : IsRow table i 0 (map (λ o. o.first) task.outs)
  pub env : (n time : ℕ) → slice_get (times_of batches i) n ≡ Some time → IsEnv d samples batches table task time (states n) (envs n)
  pub row : (n : ℕ) → n < length (times_of batches i) → IsRow table i (n + 1) (outs_in task (envs n))
  pub next : (n : ℕ) → n < length (times_of batches i) → AreStatesAfter task (envs n) (states n) (states (n + 1))

-- the table is the meaning of the diagram with these samples and batches
pub record IsMeaning (d : Diagram) (samples : List Sample) (batches : List Batch) (table : Table) : Type 0 where
  pub rows : HasAllRows d.tasks batches table
  pub each : (i : ℕ) (task : Task) → slice_get d.tasks i ≡ Some task → IsStream d samples batches table i task
