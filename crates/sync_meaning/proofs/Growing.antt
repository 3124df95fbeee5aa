-- A table that grows by a row, and the equations of a task that hold in it.
use Rattle.std.proofs.Common.{◌≡◌, ◌≢◌, ℕ, ℤ, ◌+◌, ◌-◌, ◌*◌, ◌<◌, ◌≤◌, List, ◌++◌, length, map, slice_get, slice_range, set, Some, refl, sym, ◌∙◌, ap, subst, arith, inl, inr, eq-eqb, length-append}
use Rattle.std.specs.Prelude.{◌==◌, if◌then◌else◌}
use Rattle.std.proofs.Math.Nat.{mul-le-mul_right}
use Rattle.std.proofs.lemmas.Bool.{cases_eq, ne_eqb}
use Rattle.std.proofs.lemmas.Option.{slice_get_within, same_Some}
use Rattle.dbp_plan.specs.declared.diagram.Diagram.{Diagram}
use Rattle.dbp_plan.specs.declared.diagram.Link.{Link}
use Rattle.dbp_plan.specs.declared.diagram.Read.{Read}
use Rattle.dbp_plan.specs.declared.diagram.Task.{Task}
use Rattle.dbp_plan.specs.declared.schedule.Batch.{Batch}
use Rattle.dbp_plan.specs.declared.schedule.Sample.{Sample}
use Rattle.dbp_plan.specs.declared.table.Table.{Table}
use Rattle.dbp_plan.specs.declared.table.TaskRows.{TaskRows}
use Rattle.dbp_plan.specs.Occurrences.{count_until, times_of}
use Rattle.dbp_plan.specs.Table.{HasRowsOf, IsRow, row_at}
use Rattle.sync_meaning.specs.Meaning.{AreStatesAfter, IsEnv, IsRead, IsStream, outs_in}
use Rattle.sync_meaning.specs.Streams.{HasRowsOfTable, IsStreamTo}
use Rattle.dbp_plan.specs.ListItems.{set_here, set_other}
use Rattle.dbp_plan.specs.Ranges.{range_after, range_front}

-- a row by the values and the number of ports
row_by : (rows : TaskRows) (n ports : ℕ) (words : List ℤ) → rows.ports ≡ ports → rows.words ≡ words → row_at rows n ≡ slice_range words (n * ports) ((n + 1) * ports)
row_by rows n ports words same is = ap (λ p. slice_range rows.words (n * p) ((n + 1) * p)) same ∙ ap (λ ws. slice_range ws (n * ports) ((n + 1) * ports)) is

-- a row that was there stays
row_stays : (old new : TaskRows) (row : List ℤ) (n : ℕ) → new.ports ≡ old.ports → new.words ≡ old.words ++ row → (n + 1) * old.ports ≤ length old.words → row_at old n ≡ row_at new n
row_stays old new row n ports words there =
    let le : n * old.ports ≤ (n + 1) * old.ports = mul-le-mul_right old.ports (omega arith) in
    sym (row_by new n old.ports (old.words ++ row) ports words ∙ range_front old.words row (n * old.ports) ((n + 1) * old.ports) le there)

still_there : (old new : TaskRows) (row : List ℤ) (n : ℕ) → new.ports ≡ old.ports → new.words ≡ old.words ++ row → (n + 1) * old.ports ≤ length old.words → (n + 1) * new.ports ≤ length new.words
still_there old new row n ports words there =
    let same : (n + 1) * new.ports ≡ (n + 1) * old.ports = ap (λ p. (n + 1) * p) ports in
    omega (arith, same, ap length words, length-append old.words row)

-- the table in which a task's rows were given one more has all rows that it had
pub rows_stay : (i : ℕ) (old new : TaskRows) (row : List ℤ) (table later : Table) → slice_get table.tasks i ≡ Some old → new.ports ≡ old.ports → new.words ≡ old.words ++ row
    → later.tasks ≡ set table.tasks i new → HasRowsOfTable table later
rows_stay i old new row table later at ports words all j n r is =
    let inside : i < length table.tasks = slice_get_within table.tasks i old at in
    elim (cases_eq j i) [
      | inl same ↦
          let one : is.rows ≡ old = same_Some _ _ (sym is.has_rows ∙ ap (λ k. slice_get table.tasks k) same ∙ at) in
          let there : (n + 1) * old.ports ≤ length old.words = subst (λ (o : TaskRows). (n + 1) * o.ports ≤ length o.words) one is.there in
          record {
            rows = new;
            has_rows = ap (λ ts. slice_get ts j) all ∙ ap (λ k. slice_get (set table.tasks i new) k) same ∙ set_here table.tasks i new inside;
            there = still_there old new row n ports words there;
            is = is.is ∙ ap (λ (o : TaskRows). row_at o n) one ∙ row_stays old new row n ports words there;
          }
      | inr apart ↦ record {
        rows = is.rows;
        has_rows = ap (λ ts. slice_get ts j) all ∙ set_other table.tasks i j new apart ∙ is.has_rows;
        there = is.there;
        is = is.is;
      }
    ]

-- and the new row
pub row_pushed : (i m outs : ℕ) (old new : TaskRows) (row : List ℤ) (table later : Table) → slice_get table.tasks i ≡ Some old → HasRowsOf outs m old → length row ≡ outs → new.ports ≡ old.ports
    → new.words ≡ old.words ++ row → later.tasks ≡ set table.tasks i new → IsRow later i (m + 1) row
row_pushed i m outs old new row table later at has size ports words all =
    let first : (m + 1) * outs ≡ length old.words = sym has.size in
    let last : (m + 1 + 1) * outs ≡ length old.words + length row = omega (arith, has.size, size) in
    let same : (m + 1 + 1) * new.ports ≡ (m + 1 + 1) * outs = ap (λ p. (m + 1 + 1) * p) (ports ∙ has.ports) in
    record {
      rows = new;
      has_rows = ap (λ ts. slice_get ts i) all ∙ set_here table.tasks i new (slice_get_within table.tasks i old at);
      there = omega (arith, same, last, ap length words, length-append old.words row);
      is = sym (row_by new (m + 1) outs (old.words ++ row) (ports ∙ has.ports) words ∙ range_after old.words row ((m + 1) * outs) ((m + 1 + 1) * outs) first last);
    }

-- what is read stays
read_stays : (links : List Link) (occurred : ℕ → ℕ) (table later : Table) (r : Read) (value : ℤ) → HasRowsOfTable table later → IsRead links occurred table r value → IsRead links occurred later r value
read_stays links occurred table later r value stay is = record {
  link = is.link;
  has_link = is.has_link;
  row = is.row;
  is_row = stay is.link.writer (occurred is.link.writer - is.link.delay) is.row is.is_row;
  has_value = is.has_value;
}

-- and is the same if the writer's occurrences are as many
pub read_counted : (links : List Link) (occurred other : ℕ → ℕ) (table : Table) (r : Read) (value : ℤ) → ((l : Link) → slice_get links r.link ≡ Some l → occurred l.writer ≡ other l.writer) → IsRead links occurred table r value
    → IsRead links other table r value
read_counted links occurred other table r value same is = record {
  link = is.link;
  has_link = is.has_link;
  row = is.row;
  is_row = subst (λ n. IsRow table is.link.writer (n - is.link.delay) is.row) (same is.link is.has_link) is.is_row;
  has_value = is.has_value;
}

module _ (d : Diagram) (samples : List Sample) (batches : List Batch) where
  pub env_stays : (table later : Table) (t : Task) (time : ℕ) (states env : List ℤ) → HasRowsOfTable table later → IsEnv d samples batches table t time states env → IsEnv d samples batches later t time states env
  env_stays table later t time states env stay is = record {
    size = is.size;
    state = is.state;
    sense = is.sense;
    read = λ k r value at at_w. read_stays d.links (λ w. count_until (times_of batches w) time) table later r value stay (is.read k r value at at_w);
    lets = is.lets;
  }

  -- the equations stay
  pub stream_stays : (table later : Table) (i : ℕ) (t : Task) (count : ℕ) (after : List ℤ) → HasRowsOfTable table later → IsStreamTo d samples batches table i t count after → IsStreamTo d samples batches later i t count after
  stream_stays table later i t count after stay s = record {
    states = s.states;
    envs = s.envs;
    first_states = s.first_states;
    first_row = stay i 0 (map (λ o. o.first) t.outs) s.first_row;
    env = λ n time below at. env_stays table later t time (s.states n) (s.envs n) stay (s.env n time below at);
    row = λ n below. stay i (n + 1) (outs_in t (s.envs n)) (s.row n below);
    next = s.next;
    after_states = s.after_states;
  }

-- the stream with another item at the place
abbrev put : {X : Type 0} → (ℕ → X) → ℕ → X → ℕ → X
put stream place x n = if n == place then x else stream n

put_here : {X : Type 0} (stream : ℕ → X) (place n : ℕ) (x : X) → n ≡ place → put stream place x n ≡ x
put_here stream place n x same = rw (eq-eqb n place same) refl

put_other : {X : Type 0} (stream : ℕ → X) (place n : ℕ) (x : X) → n ≢ place → put stream place x n ≡ stream n
put_other stream place n x apart = rw (ne_eqb n place apart) refl

env_as : (d : Diagram) (samples : List Sample) (batches : List Batch) (table : Table) (t : Task) (time later : ℕ) (states others env other : List ℤ) → time ≡ later → states ≡ others → env ≡ other
    → IsEnv d samples batches table t time states env → IsEnv d samples batches table t later others other
env_as d samples batches table t time later states others env other when same one is =
    subst (λ (n : ℕ). IsEnv d samples batches table t n others other) when
    (subst (λ (l : List ℤ). IsEnv d samples batches table t time l other) same (subst (λ (l : List ℤ). IsEnv d samples batches table t time states l) one is))

after_as : (t : Task) (env other before others after afters : List ℤ) → env ≡ other → before ≡ others → after ≡ afters → AreStatesAfter t env before after → AreStatesAfter t other others afters
after_as t env other before others after afters one same reached is =
    subst (λ (l : List ℤ). AreStatesAfter t other others l) reached (subst (λ (l : List ℤ). AreStatesAfter t other l after) same (subst (λ (l : List ℤ). AreStatesAfter t l before after) one is))

module _ (d : Diagram) (samples : List Sample) (batches : List Batch) (table : Table) (i : ℕ) (t : Task) where
  -- before the first instance
  pub stream_none : (after : List ℤ) → IsRow table i 0 (map (λ o. o.first) t.outs) → after ≡ map (λ s. s.first) t.states → IsStreamTo d samples batches table i t 0 after
  stream_none after row is = record {
    states = λ n. after;
    envs = λ n. after;
    first_states = is;
    first_row = row;
    env = λ n time below. absurd (omega arith);
    row = λ n below. absurd (omega arith);
    next = λ n below. absurd (omega arith);
    after_states = refl;
  }

  -- one instance more
  pub stream_more : (count time : ℕ) (before env after : List ℤ) → slice_get (times_of batches i) count ≡ Some time → IsEnv d samples batches table t time before env → IsRow table i (count + 1) (outs_in t env)
      → AreStatesAfter t env before after → IsStreamTo d samples batches table i t count before → IsStreamTo d samples batches table i t (count + 1) after
  stream_more count time before env after at is row next s =
      let states : ℕ → List ℤ = put s.states (count + 1) after in
      let envs : ℕ → List ℤ = put s.envs count env in
      let old : (n : ℕ) → n ≤ count → s.states n ≡ states n = λ n le. sym (put_other s.states (count + 1) n after (λ e. omega arith)) in
      let here : (n : ℕ) → n ≡ count → before ≡ states n = λ n same. sym s.after_states ∙ ap s.states (sym same) ∙ old n (omega arith) in
      let old_env : (n : ℕ) → n < count → s.envs n ≡ envs n = λ n below. sym (put_other s.envs count n env (λ e. omega arith)) in
      let here_env : (n : ℕ) → n ≡ count → env ≡ envs n = λ n same. sym (put_here s.envs count n env same) in
      record {
        states = states;
        envs = envs;
        first_states = sym (old 0 (omega arith)) ∙ s.first_states;
        first_row = s.first_row;
        env = λ n when below at_n. elim (cases_eq n count) [
          | inl same ↦
              let one : time ≡ when = same_Some _ _ (sym at ∙ ap (λ k. slice_get (times_of batches i) k) (sym same) ∙ at_n) in
              env_as d samples batches table t time when before (states n) env (envs n) one (here n same) (here_env n same) is
          | inr apart ↦ env_as d samples batches table t when when (s.states n) (states n) (s.envs n) (envs n) refl (old n (omega arith)) (old_env n (omega arith)) (s.env n when (omega arith) at_n)
        ];
        row = λ n below. elim (cases_eq n count) [
          | inl same ↦ subst (λ (k : ℕ). IsRow table i (k + 1) (outs_in t (envs n))) (sym same) (subst (λ (l : List ℤ). IsRow table i (count + 1) (outs_in t l)) (here_env n same) row)
          | inr apart ↦ subst (λ (l : List ℤ). IsRow table i (n + 1) (outs_in t l)) (old_env n (omega arith)) (s.row n (omega arith))
        ];
        next = λ n below. elim (cases_eq n count) [
          | inl same ↦
              let reached : after ≡ states (n + 1) = sym (put_here s.states (count + 1) (n + 1) after (ap (λ k. k + 1) same)) in
              after_as t env (envs n) before (states n) after (states (n + 1)) (here_env n same) (here n same) reached next
          | inr apart ↦ after_as t (s.envs n) (envs n) (s.states n) (states n) (s.states (n + 1)) (states (n + 1)) (old_env n (omega arith)) (old n (omega arith)) (old (n + 1) (omega arith)) (s.next n (omega arith))
        ];
        after_states = put_here s.states (count + 1) (count + 1) after refl;
      }

  -- after the last instance
  pub stream_all : (count : ℕ) (after : List ℤ) → count ≡ length (times_of batches i) → IsStreamTo d samples batches table i t count after → IsStream d samples batches table i t
  stream_all count after all s = record {
    states = s.states;
    envs = s.envs;
    first_states = s.first_states;
    first_row = s.first_row;
    env = λ n time at. s.env n time (omega (arith, slice_get_within (times_of batches i) n time at)) at;
    row = λ n below. s.row n (omega arith);
    next = λ n below. s.next n (omega arith);
  }
