-- A plan has one meaning at most.
use Rattle.std.proofs.Common.{◌≡◌, ℕ, ℤ, pos, zero, suc, ◌<◌, ◌≤◌, ◌+◌, ◌-◌, List, length, get_or, slice_get, Some, refl, sym, ◌∙◌, ap, subst, arith, inl, inr}
use Rattle.std.proofs.lemmas.Bool.{cases_lt}
use Rattle.std.proofs.lemmas.Option.{get_or_from_slice_get, slice_get-get_or, slice_get_within}
use Rattle.dbp_plan.specs.declared.diagram.Diagram.{Diagram}
use Rattle.dbp_plan.specs.declared.diagram.Read.{Read}
use Rattle.dbp_plan.specs.declared.diagram.Sense.{Sense}
use Rattle.dbp_plan.specs.declared.diagram.Task.{Task}
use Rattle.dbp_plan.specs.declared.plan.Plan.{Plan}
use Rattle.dbp_plan.specs.declared.schedule.Batch.{Batch}
use Rattle.dbp_plan.specs.declared.schedule.Sample.{Sample}
use Rattle.dbp_plan.specs.declared.table.Table.{Table}
use Rattle.dbp_plan.specs.Closed.{IsClosedTask}
use Rattle.dbp_plan.specs.Occurrences.{count_until, times_of}
use Rattle.dbp_plan.specs.Plan.{IsPlan}
use Rattle.dbp_plan.specs.Table.{IsRow, table_row}
use Rattle.sync_meaning.specs.Meaning.{AreStatesAfter, IsEnv, IsMeaning, IsRead, IsStream, outs_in}
use Rattle.dbp_plan.specs.ListItems.{at_place}
use Rattle.sync_meaning.specs.SomeMeaningStreams.{env_at-is, length-states_at, read_given, sense_given, state_given}
use Rattle.sync_meaning.specs.SomeMeaningEnvs.{IsEnvFrom, one_env, one_states_after, states_after, states_after-are}
use Rattle.sync_meaning.specs.SomeMeaningRows.{AgreeBelow, Solves, env_at, given_at, one_solution, row_of, states_at, states_at-more, states_at-none, task_rules, turn, value_at}
use Rattle.sync_meaning.specs.SomeMeaningTables.{row_in, same_table}

module _ (d : Diagram) (samples : List Sample) (batches : List Batch) (table : Table) where
  -- the value of a read is that of the table's rows
  value_is : (time : ℕ) (r : Read) (value : ℤ) → IsRead d.links (λ w. count_until (times_of batches w) time) table r value → value_at d samples batches (table_row table) time r ≡ value
  value_is time r value is =
      let number : ℕ = count_until (times_of batches is.link.writer) time - is.link.delay in
      let row : table_row table is.link.writer number ≡ is.row = row_in table is.link.writer number is.row is.is_row in
      let here : value_at d samples batches (table_row table) time r ≡ get_or (table_row table is.link.writer number) r.port (pos 0) = rw is.has_link refl in
      here ∙ ap (λ (l : List ℤ). get_or l r.port (pos 0)) row ∙ get_or_from_slice_get is.row r.port value (pos 0) is.has_value

  -- an environment begins with the values that these rows give
  env_given : (task : Task) (time : ℕ) (states env : List ℤ) → length states ≡ length task.states → IsEnv d samples batches table task time states env
      → IsEnvFrom task (given_at d samples batches (table_row table) task time states) env
  env_given task time states env size is = record {
    size = is.size;
    given_values = λ j below. elim (cases_lt j (length states)) [
      | inl early ↦
          let value : (w : ℤ) × (slice_get states j ≡ Some w) = at_place states j early in
          is.state j value.0 value.1 ∙ sym value.1 ∙ sym (state_given d samples batches (table_row table) task time j states early)
      | inr later ↦ elim (cases_lt j (length task.states + length task.senses)) [
        | inl sensed ↦
            let k : ℕ = j - length task.states in
            let place : length task.states + k ≡ j = omega arith in
            let s : (s : Sense) × (slice_get task.senses k ≡ Some s) = at_place task.senses k (omega arith) in
            subst (λ (p : ℕ). slice_get env p ≡ slice_get (given_at d samples batches (table_row table) task time states) p) place
            (is.sense k s.0 s.1 ∙ sym (sense_given d samples batches (table_row table) task time k s.0 states size s.1))
        | inr after ↦
            let k : ℕ = j - (length task.states + length task.senses) in
            let place : length task.states + length task.senses + k ≡ j = omega arith in
            let r : (r : Read) × (slice_get task.reads k ≡ Some r) = at_place task.reads k (omega arith) in
            let value : (w : ℤ) × (slice_get env (length task.states + length task.senses + k) ≡ Some w) = at_place env (length task.states + length task.senses + k) (omega (arith, is.size)) in
            let same : value_at d samples batches (table_row table) time r.0 ≡ value.0 = value_is time r.0 value.0 (is.read k r.0 value.0 r.1 value.1) in
            subst (λ (p : ℕ). slice_get env p ≡ slice_get (given_at d samples batches (table_row table) task time states) p) place
            (value.1 ∙ ap (λ (w : ℤ). Some w) (sym same) ∙ sym (read_given d samples batches (table_row table) task time k r.0 states size r.1))
      ]
    ];
    lets = is.lets;
  }

  module _ (plan : IsPlan d samples batches) (i : ℕ) (task : Task) (at : slice_get d.tasks i ≡ Some task) (stream : IsStream d samples batches table i task) where
    env_is : (n : ℕ) → n < length (times_of batches i) → stream.states n ≡ states_at d samples batches (table_row table) i task n → stream.envs n ≡ env_at d samples batches (table_row table) i task n
    env_is n below states =
        let rules : IsClosedTask (length d.inputs) (length d.events) (length d.links) task = task_rules d samples batches plan i task at in
        let time : ℕ = get_or (times_of batches i) n 0 in
        let env : IsEnv d samples batches table task time (states_at d samples batches (table_row table) i task n) (stream.envs n) =
        subst (λ (s : List ℤ). IsEnv d samples batches table task time s (stream.envs n)) states (stream.env n time (slice_get-get_or (times_of batches i) n 0 below)) in
        one_env task (given_at d samples batches (table_row table) task time (states_at d samples batches (table_row table) i task n)) (stream.envs n) (env_at d samples batches (table_row table) i task n) rules.order
        (env_given task time (states_at d samples batches (table_row table) i task n) (stream.envs n) (length-states_at d samples batches plan (table_row table) i n task at) env)
        (env_at-is d samples batches plan (table_row table) i n task at)

    states_are : (n : ℕ) → n ≤ length (times_of batches i) → stream.states n ≡ states_at d samples batches (table_row table) i task n
    states_are zero few = stream.first_states ∙ sym (states_at-none d samples batches (table_row table) i task)
    states_are (suc n) few =
        let rules : IsClosedTask (length d.inputs) (length d.events) (length d.links) task = task_rules d samples batches plan i task at in
        let before : stream.states n ≡ states_at d samples batches (table_row table) i task n = states_are n (omega arith) in
        let env : stream.envs n ≡ env_at d samples batches (table_row table) i task n = env_is n (omega arith) before in
        let one : n + 1 ≡ suc n = omega arith in
        let next : AreStatesAfter task (stream.envs n) (stream.states n) (stream.states (suc n)) = subst (λ (m : ℕ). AreStatesAfter task (stream.envs n) (stream.states n) (stream.states m)) one (stream.next n (omega arith)) in
        let here : AreStatesAfter task (env_at d samples batches (table_row table) i task n) (states_at d samples batches (table_row table) i task n) (stream.states (suc n)) =
        subst (λ (s : List ℤ). AreStatesAfter task (env_at d samples batches (table_row table) i task n) s (stream.states (suc n))) before (subst (λ (e : List ℤ). AreStatesAfter task e (stream.states n) (stream.states (suc n))) env next) in
        one_states_after task (env_at d samples batches (table_row table) i task n) (states_at d samples batches (table_row table) i task n) (stream.states (suc n))
        (states_after task (env_at d samples batches (table_row table) i task n) (states_at d samples batches (table_row table) i task n)) here
        (states_after-are task (env_at d samples batches (table_row table) i task n) (states_at d samples batches (table_row table) i task n) rules.one_next rules.next_states (length-states_at d samples batches plan (table_row table) i n task at))
        ∙ sym (states_at-more d samples batches (table_row table) i task n)

    row_is : (n : ℕ) → n ≤ length (times_of batches i) → table_row table i n ≡ row_of d samples batches (table_row table) i task n
    row_is zero few = row_in table i 0 _ stream.first_row
    row_is (suc n) few =
        let one : n + 1 ≡ suc n = omega arith in
        let env : stream.envs n ≡ env_at d samples batches (table_row table) i task n = env_is n (omega arith) (states_are n (omega arith)) in
        row_in table i (suc n) (outs_in task (stream.envs n)) (subst (λ (m : ℕ). IsRow table i m (outs_in task (stream.envs n))) one (stream.row n (omega arith))) ∙ ap (outs_in task) env

  -- the rows of a meaning solve the equations of rows
  pub meaning_solves : IsPlan d samples batches → IsMeaning d samples batches table → Solves d samples batches (table_row table)
  meaning_solves plan meaning = record { each = λ i n task at few. row_is plan i task at (meaning.each i task at) n few }

  -- and the value that they give a read is the one that the meaning gives it
  pub read_is : IsMeaning d samples batches table → (i n k : ℕ) (task : Task) (r : Read) → slice_get d.tasks i ≡ Some task → n < length (times_of batches i) → slice_get task.reads k ≡ Some r
      → IsRead d.links (λ w. count_until (times_of batches w) (get_or (times_of batches i) n 0)) table r (value_at d samples batches (table_row table) (get_or (times_of batches i) n 0) r)
  read_is meaning i n k task r at below has =
      let stream : IsStream d samples batches table i task = meaning.each i task at in
      let time : ℕ = get_or (times_of batches i) n 0 in
      let env : IsEnv d samples batches table task time (stream.states n) (stream.envs n) = stream.env n time (slice_get-get_or (times_of batches i) n 0 below) in
      let value : (w : ℤ) × (slice_get (stream.envs n) (length task.states + length task.senses + k) ≡ Some w) = at_place (stream.envs n) (length task.states + length task.senses + k) (omega (arith, env.size, slice_get_within task.reads k r has)) in
      let is : IsRead d.links (λ w. count_until (times_of batches w) time) table r value.0 = env.read k r value.0 has value.1 in
      subst (λ (w : ℤ). IsRead d.links (λ v. count_until (times_of batches v) time) table r w) (sym (value_is time r value.0 is)) is

one_table : (d : Diagram) (samples : List Sample) (batches : List Batch) (y z : Table) → IsPlan d samples batches → IsMeaning d samples batches y → IsMeaning d samples batches z → y ≡ z
one_table d samples batches y z plan one other =
    same_table d.tasks batches y z one.rows other.rows (λ i n task at few.
    let agree : AgreeBelow d samples batches (turn d samples batches i n + 1) (table_row y) (table_row z) =
    one_solution d samples batches plan (turn d samples batches i n + 1) (table_row y) (table_row z) (meaning_solves d samples batches y plan one) (meaning_solves d samples batches z plan other) in
    agree.same i n task at few (omega arith))

pub one_meaning : (p : Plan) (y z : Table) → IsMeaning p.diagram p.samples p.batches y → IsMeaning p.diagram p.samples p.batches z → y ≡ z
one_meaning p y z = one_table p.diagram p.samples p.batches y z p.rules
