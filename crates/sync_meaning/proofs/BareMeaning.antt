-- The meaning of a diagram is that of its bare diagram: no equation speaks of policy, end, prios, deadlines and ranks.
use Rattle.std.proofs.Common.{◌≡◌, ℕ, ℤ, ◌+◌, List, length, map, slice_get, option_map, Some, sym, ◌∙◌, ap, subst}
use Rattle.std.proofs.lemmas.List.{length-map}
use Rattle.std.proofs.lemmas.Option.{slice_get-map}
use Rattle.dbp_plan.specs.declared.diagram.Diagram.{Diagram}
use Rattle.dbp_plan.specs.declared.diagram.Task.{Task}
use Rattle.dbp_plan.specs.declared.schedule.Batch.{Batch}
use Rattle.dbp_plan.specs.declared.schedule.Sample.{Sample}
use Rattle.dbp_plan.specs.declared.table.Table.{Table}
use Rattle.dbp_plan.specs.BareDiagrams.{bare_diagram, bare_task}
use Rattle.dbp_plan.specs.Occurrences.{times_of}
use Rattle.dbp_plan.specs.Table.{HasAllRows, HasRowsOf}
use Rattle.dbp_plan.proofs.ListMaps.{from-map}
use Rattle.sync_meaning.specs.Meaning.{AreStatesAfter, IsEnv, IsMeaning, IsStream}

-- a task at a place stands there without its prio and deadline among the bare tasks
bare-at : (tasks : List Task) (i : ℕ) (t : Task) → slice_get tasks i ≡ Some t → slice_get (map bare_task tasks) i ≡ Some (bare_task t)
bare-at tasks i t at = slice_get-map bare_task tasks i ∙ ap (option_map bare_task) at

-- ---- of one instance

bare-env : (d : Diagram) (samples : List Sample) (batches : List Batch) (table : Table) (task : Task) (time : ℕ) (states env : List ℤ)
    → IsEnv d samples batches table task time states env → IsEnv (bare_diagram d) samples batches table (bare_task task) time states env
bare-env d samples batches table task time states env is = record { size = is.size; state = is.state; sense = is.sense; read = is.read; lets = is.lets }

env-again : (d : Diagram) (samples : List Sample) (batches : List Batch) (table : Table) (task : Task) (time : ℕ) (states env : List ℤ)
    → IsEnv (bare_diagram d) samples batches table (bare_task task) time states env → IsEnv d samples batches table task time states env
env-again d samples batches table task time states env is = record { size = is.size; state = is.state; sense = is.sense; read = is.read; lets = is.lets }

bare-after : (task : Task) (env before after : List ℤ) → AreStatesAfter task env before after → AreStatesAfter (bare_task task) env before after
bare-after task env before after are = record { size = are.size; next = are.next; kept = are.kept }

after-again : (task : Task) (env before after : List ℤ) → AreStatesAfter (bare_task task) env before after → AreStatesAfter task env before after
after-again task env before after are = record { size = are.size; next = are.next; kept = are.kept }

-- ---- of one task

bare-stream : (d : Diagram) (samples : List Sample) (batches : List Batch) (table : Table) (i : ℕ) (task : Task)
    → IsStream d samples batches table i task → IsStream (bare_diagram d) samples batches table i (bare_task task)
bare-stream d samples batches table i task is = record {
  states = is.states;
  envs = is.envs;
  first_states = is.first_states;
  first_row = is.first_row;
  env = λ n time at. bare-env d samples batches table task time (is.states n) (is.envs n) (is.env n time at);
  row = is.row;
  next = λ n below. bare-after task (is.envs n) (is.states n) (is.states (n + 1)) (is.next n below);
}

stream-again : (d : Diagram) (samples : List Sample) (batches : List Batch) (table : Table) (i : ℕ) (task : Task)
    → IsStream (bare_diagram d) samples batches table i (bare_task task) → IsStream d samples batches table i task
stream-again d samples batches table i task is = record {
  states = is.states;
  envs = is.envs;
  first_states = is.first_states;
  first_row = is.first_row;
  env = λ n time at. env-again d samples batches table task time (is.states n) (is.envs n) (is.env n time at);
  row = is.row;
  next = λ n below. after-again task (is.envs n) (is.states n) (is.states (n + 1)) (is.next n below);
}

-- ---- of all tasks

bare-rows : (tasks : List Task) (batches : List Batch) (table : Table) → HasAllRows tasks batches table → HasAllRows (map bare_task tasks) batches table
bare-rows tasks batches table has = record {
  size = has.size ∙ sym (length-map tasks bare_task);
  each = λ i t rows at at_rows.
      let u : (u : Task) × (slice_get tasks i ≡ Some u) × (bare_task u ≡ t) = from-map bare_task tasks i t at in
      subst (λ (v : Task). HasRowsOf (length v.outs) (length (times_of batches i)) rows) u.2 (has.each i u.0 rows u.1 at_rows);
}

rows-again : (tasks : List Task) (batches : List Batch) (table : Table) → HasAllRows (map bare_task tasks) batches table → HasAllRows tasks batches table
rows-again tasks batches table has = record {
  size = has.size ∙ length-map tasks bare_task;
  each = λ i t rows at at_rows. has.each i (bare_task t) rows (bare-at tasks i t at) at_rows;
}

bare-meaning : (d : Diagram) (samples : List Sample) (batches : List Batch) (table : Table) → IsMeaning d samples batches table → IsMeaning (bare_diagram d) samples batches table
bare-meaning d samples batches table is = record {
  rows = bare-rows d.tasks batches table is.rows;
  each = λ i task at.
      let u : (u : Task) × (slice_get d.tasks i ≡ Some u) × (bare_task u ≡ task) = from-map bare_task d.tasks i task at in
      subst (λ (v : Task). IsStream (bare_diagram d) samples batches table i v) u.2 (bare-stream d samples batches table i u.0 (is.each i u.0 u.1));
}

meaning-again : (d : Diagram) (samples : List Sample) (batches : List Batch) (table : Table) → IsMeaning (bare_diagram d) samples batches table → IsMeaning d samples batches table
meaning-again d samples batches table is = record {
  rows = rows-again d.tasks batches table is.rows;
  each = λ i task at. stream-again d samples batches table i task (is.each i (bare_task task) (bare-at d.tasks i task at));
}

-- diagrams that are the same without ranks, and what ranks are made of, have the same meanings
pub same-meaning : (d e : Diagram) (samples : List Sample) (batches : List Batch) (table : Table) → bare_diagram d ≡ bare_diagram e → IsMeaning d samples batches table → IsMeaning e samples batches table
same-meaning d e samples batches table same is =
    meaning-again e samples batches table (subst (λ (bare : Diagram). IsMeaning bare samples batches table) same (bare-meaning d samples batches table is))
