-- The rows of a solution make a meaning.
use Rattle.std.proofs.Common.{◌≡◌, ℕ, ℤ, pos, zero, suc, ◌<◌, ◌≤◌, ◌+◌, ◌-◌, List, ◌++◌, length, map, get_or, slice_get, option_map, Some, refl, sym, ◌∙◌, ap, subst, arith, length-append}
use Rattle.std.specs.Prelude.{nat_le}
use Rattle.std.proofs.lemmas.List.{length-map}
use Rattle.std.proofs.lemmas.List.Sums.{count_by-le-length}
use Rattle.std.proofs.lemmas.Option.{get_or_from_slice_get, slice_get-get_or, slice_get-map, slice_get_within, same_Some}
use Rattle.dbp_plan.specs.declared.diagram.Diagram.{Diagram}
use Rattle.dbp_plan.specs.declared.diagram.Read.{Read}
use Rattle.dbp_plan.specs.declared.diagram.Sense.{Sense}
use Rattle.dbp_plan.specs.declared.diagram.Task.{Task}
use Rattle.dbp_plan.specs.declared.schedule.Batch.{Batch}
use Rattle.dbp_plan.specs.declared.schedule.Sample.{Sample}
use Rattle.dbp_plan.specs.declared.table.Table.{Table}
use Rattle.dbp_plan.specs.Closed.{IsClosedTask, let_base}
use Rattle.dbp_plan.specs.Occurrences.{count_until, times_of}
use Rattle.dbp_plan.specs.Plan.{IsPlan}
use Rattle.dbp_plan.specs.Samples.{input_value}
use Rattle.dbp_plan.specs.Table.{IsRow}
use Rattle.sync_meaning.specs.Meaning.{AreStatesAfter, IsEnv, IsMeaning, IsRead, IsStream, outs_in}
use Rattle.dbp_plan.specs.ListItems.{after_place, front_place}
use Rattle.sync_meaning.specs.SomeMeaningEnvs.{IsEnvFrom, env_from-is, states_after, states_after-are}
use Rattle.sync_meaning.specs.SomeMeaningRows.{IsLinkOf, Solves, env_at, given_at, link_of, row_of, solution, solution-solves, states_at, states_at-more, states_at-none, task_rules, value_at}
use Rattle.sync_meaning.specs.SomeMeaningTables.{AreWide, table_of, table_of-all, table_of-row}

module _ (d : Diagram) (samples : List Sample) (batches : List Batch) where
  -- the values that an environment begins with: states, senses and reads
  length-senses : (task : Task) (time : ℕ) → length (map (λ s. input_value d.inputs samples s.input time) task.senses) ≡ length task.senses
  length-senses task time = length-map task.senses (λ s. input_value d.inputs samples s.input time)

  pub length-given : (rows : ℕ → ℕ → List ℤ) (task : Task) (time : ℕ) (states : List ℤ) → length states ≡ length task.states → length (given_at d samples batches rows task time states) ≡ let_base task
  length-given rows task time states size =
      let senses : List ℤ = map (λ s. input_value d.inputs samples s.input time) task.senses in
      let reads : List ℤ = map (value_at d samples batches rows time) task.reads in
      length-append (states ++ senses) reads ∙ omega (arith, length-append states senses, length-senses task time, length-map task.reads (value_at d samples batches rows time), size)

  pub state_given : (rows : ℕ → ℕ → List ℤ) (task : Task) (time k : ℕ) (states : List ℤ) → k < length states → slice_get (given_at d samples batches rows task time states) k ≡ slice_get states k
  state_given rows task time k states below =
      let senses : List ℤ = map (λ s. input_value d.inputs samples s.input time) task.senses in
      let reads : List ℤ = map (value_at d samples batches rows time) task.reads in
      front_place (states ++ senses) reads k (omega (arith, length-append states senses)) ∙ front_place states senses k below

  pub sense_given : (rows : ℕ → ℕ → List ℤ) (task : Task) (time k : ℕ) (s : Sense) (states : List ℤ) → length states ≡ length task.states → slice_get task.senses k ≡ Some s
      → slice_get (given_at d samples batches rows task time states) (length task.states + k) ≡ Some (input_value d.inputs samples s.input time)
  sense_given rows task time k s states size at =
      let senses : List ℤ = map (λ s. input_value d.inputs samples s.input time) task.senses in
      let reads : List ℤ = map (value_at d samples batches rows time) task.reads in
      let inside : k < length task.senses = slice_get_within task.senses k s at in
      ap (λ (n : ℕ). slice_get ((states ++ senses) ++ reads) (n + k)) (sym size)
      ∙ front_place (states ++ senses) reads (length states + k) (omega (arith, length-append states senses, length-senses task time, inside))
      ∙ after_place states senses k ∙ slice_get-map (λ s. input_value d.inputs samples s.input time) task.senses k ∙ ap (option_map (λ s. input_value d.inputs samples s.input time)) at

  pub read_given : (rows : ℕ → ℕ → List ℤ) (task : Task) (time k : ℕ) (r : Read) (states : List ℤ) → length states ≡ length task.states → slice_get task.reads k ≡ Some r
      → slice_get (given_at d samples batches rows task time states) (length task.states + length task.senses + k) ≡ Some (value_at d samples batches rows time r)
  read_given rows task time k r states size at =
      let senses : List ℤ = map (λ s. input_value d.inputs samples s.input time) task.senses in
      let reads : List ℤ = map (value_at d samples batches rows time) task.reads in
      let base : length task.states + length task.senses ≡ length (states ++ senses) = omega (arith, length-append states senses, length-senses task time, size) in
      ap (λ (n : ℕ). slice_get ((states ++ senses) ++ reads) (n + k)) base
      ∙ after_place (states ++ senses) reads k ∙ slice_get-map (value_at d samples batches rows time) task.reads k ∙ ap (option_map (value_at d samples batches rows time)) at

  -- the values are those that the table's rows give
  pub record Reads (rows : ℕ → ℕ → List ℤ) (table : Table) (task : Task) (time : ℕ) : Type 0 where
    pub each : (k : ℕ) (r : Read) → slice_get task.reads k ≡ Some r → IsRead d.links (λ w. count_until (times_of batches w) time) table r (value_at d samples batches rows time r)

  env_of : (rows : ℕ → ℕ → List ℤ) (table : Table) (task : Task) (time : ℕ) (states env : List ℤ) → length states ≡ length task.states → Reads rows table task time
      → IsEnvFrom task (given_at d samples batches rows task time states) env → IsEnv d samples batches table task time states env
  env_of rows table task time states env size reads is = record {
    size = is.size;
    state = λ k value at.
        let inside : k < length states = slice_get_within states k value at in
        is.given_values k (omega arith) ∙ state_given rows task time k states inside ∙ at;
    sense = λ k s at.
        let inside : k < length task.senses = slice_get_within task.senses k s at in
        is.given_values (length task.states + k) (omega arith) ∙ sense_given rows task time k s states size at;
    read = λ k r value at at_value.
        let inside : k < length task.reads = slice_get_within task.reads k r at in
        let there : slice_get env (length task.states + length task.senses + k) ≡ Some (value_at d samples batches rows time r) =
        is.given_values (length task.states + length task.senses + k) (omega arith) ∙ read_given rows task time k r states size at in
        let same : value_at d samples batches rows time r ≡ value = same_Some _ _ (sym there ∙ at_value) in
        subst (λ (w : ℤ). IsRead d.links (λ v. count_until (times_of batches v) time) table r w) same (reads.each k r at);
    lets = is.lets;
  }

  module _ (plan : IsPlan d samples batches) where
    pub length-states_at : (rows : ℕ → ℕ → List ℤ) (i n : ℕ) (task : Task) → slice_get d.tasks i ≡ Some task → length (states_at d samples batches rows i task n) ≡ length task.states
    length-states_at rows i zero task at = ap length (states_at-none d samples batches rows i task) ∙ length-map task.states (λ s. s.first)
    length-states_at rows i (suc n) task at =
        let rules : IsClosedTask (length d.inputs) (length d.events) (length d.links) task = task_rules d samples batches plan i task at in
        let before : length (states_at d samples batches rows i task n) ≡ length task.states = length-states_at rows i n task at in
        let after : AreStatesAfter task (env_at d samples batches rows i task n) (states_at d samples batches rows i task n) (states_after task (env_at d samples batches rows i task n) (states_at d samples batches rows i task n)) =
        states_after-are task (env_at d samples batches rows i task n) (states_at d samples batches rows i task n) rules.one_next rules.next_states before in
        ap length (states_at-more d samples batches rows i task n) ∙ after.size ∙ before

    pub env_at-is : (rows : ℕ → ℕ → List ℤ) (i n : ℕ) (task : Task) → slice_get d.tasks i ≡ Some task
        → IsEnvFrom task (given_at d samples batches rows task (get_or (times_of batches i) n 0) (states_at d samples batches rows i task n)) (env_at d samples batches rows i task n)
    env_at-is rows i n task at =
        let rules : IsClosedTask (length d.inputs) (length d.events) (length d.links) task = task_rules d samples batches plan i task at in
        env_from-is task (given_at d samples batches rows task (get_or (times_of batches i) n 0) (states_at d samples batches rows i task n)) rules.order
        (length-given rows task (get_or (times_of batches i) n 0) (states_at d samples batches rows i task n) (length-states_at rows i n task at))

    -- a solution's rows make a meaning
    module _ (rows : ℕ → ℕ → List ℤ) (solves : Solves d samples batches rows) where
      width : (i n : ℕ) (task : Task) → length (row_of d samples batches rows i task n) ≡ length task.outs
      width i zero task = length-map task.outs (λ o. o.first)
      width i (suc n) task = length-map task.outs _

      wide : AreWide rows batches d.tasks
      wide = record { each = λ i n task at few. ap length (solves.each i n task at few) ∙ width i n task }

      row_there : (i n : ℕ) (task : Task) → slice_get d.tasks i ≡ Some task → n ≤ length (times_of batches i) → IsRow (table_of rows batches d.tasks) i n (row_of d samples batches rows i task n)
      row_there i n task at few =
          subst (λ (row : List ℤ). IsRow (table_of rows batches d.tasks) i n row) (solves.each i n task at few) (table_of-row rows batches d.tasks i n task wide at few)

      reads_there : (i time : ℕ) (task : Task) → slice_get d.tasks i ≡ Some task → Reads rows (table_of rows batches d.tasks) task time
      reads_there i time task at = record {
        each = λ k r at_read.
            let l : IsLinkOf d samples batches plan i task r = link_of d samples batches plan i k task r at at_read in
            let number : ℕ = count_until (times_of batches l.link.writer) time - l.link.delay in
            let few : number ≤ length (times_of batches l.link.writer) = omega (arith, count_by-le-length (λ (t : ℕ). nat_le t time) (times_of batches l.link.writer)) in
            let size : length (rows l.link.writer number) ≡ length l.writer.outs = wide.each l.link.writer number l.writer l.has_writer few in
            let value : value_at d samples batches rows time r ≡ get_or (rows l.link.writer number) r.port (pos 0) = rw l.has_link refl in
            record {
              link = l.link;
              has_link = l.has_link;
              row = rows l.link.writer number;
              is_row = table_of-row rows batches d.tasks l.link.writer number l.writer wide l.has_writer few;
              has_value = slice_get-get_or (rows l.link.writer number) r.port (pos 0) (omega (arith, size, l.port)) ∙ ap (λ (w : ℤ). Some w) (sym value);
            };
      }

      stream : (i : ℕ) (task : Task) → slice_get d.tasks i ≡ Some task → IsStream d samples batches (table_of rows batches d.tasks) i task
      stream i task at =
          let rules : IsClosedTask (length d.inputs) (length d.events) (length d.links) task = task_rules d samples batches plan i task at in
          record {
            states = λ n. states_at d samples batches rows i task n;
            envs = λ n. env_at d samples batches rows i task n;
            first_states = states_at-none d samples batches rows i task;
            first_row = row_there i 0 task at (omega arith);
            env = λ n time at_time.
                let here : get_or (times_of batches i) n 0 ≡ time = get_or_from_slice_get (times_of batches i) n time 0 at_time in
                subst (λ (t : ℕ). IsEnv d samples batches (table_of rows batches d.tasks) task t (states_at d samples batches rows i task n) (env_at d samples batches rows i task n)) here
                (env_of rows (table_of rows batches d.tasks) task (get_or (times_of batches i) n 0) (states_at d samples batches rows i task n) (env_at d samples batches rows i task n)
                (length-states_at rows i n task at) (reads_there i (get_or (times_of batches i) n 0) task at) (env_at-is rows i n task at));
            row = λ n below.
                let one : suc n ≡ n + 1 = omega arith in
                subst (λ (m : ℕ). IsRow (table_of rows batches d.tasks) i m (outs_in task (env_at d samples batches rows i task n))) one (row_there i (suc n) task at (omega arith));
            next = λ n below.
                let one : suc n ≡ n + 1 = omega arith in
                let after = states_after-are task (env_at d samples batches rows i task n) (states_at d samples batches rows i task n) rules.one_next rules.next_states (length-states_at rows i n task at) in
                subst (λ (m : ℕ). AreStatesAfter task (env_at d samples batches rows i task n) (states_at d samples batches rows i task n) (states_at d samples batches rows i task m)) one
                (subst (λ (s : List ℤ). AreStatesAfter task (env_at d samples batches rows i task n) (states_at d samples batches rows i task n) s) (sym (states_at-more d samples batches rows i task n)) after);
          }

      meaning : IsMeaning d samples batches (table_of rows batches d.tasks)
      meaning = record { rows = table_of-all rows batches d.tasks wide; each = stream }

    pub some_table : (y : Table) × IsMeaning d samples batches y
    some_table = (table_of (solution d samples batches plan) batches d.tasks, meaning (solution d samples batches plan) (solution-solves d samples batches plan))
