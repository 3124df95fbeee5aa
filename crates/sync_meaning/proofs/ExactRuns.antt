-- A run whose rows, states and inputs are those of the meaning.
use Rattle.std.proofs.Common.{◌≡◌, ◌≢◌, ℕ, ℤ, ◌+◌, ◌-◌, ◌*◌, ◌<◌, ◌≤◌, true, List, ◌++◌, [], length, map, take, drop, get_or, slice_get, set, option_map, Some, All, sym, ◌∙◌, ap, subst, arith, inl, inr, length-take}
use Rattle.std.specs.Prelude.{replicate, slice_index}
use Rattle.std.specs.List.{refill}
use Rattle.std.specs.List.Sorted.{IsStrictlyIncreasing}
use Rattle.std.proofs.Math.Seq.{take-append_seam}
use Rattle.std.proofs.lemmas.Bool.{cases_Bool}
use Rattle.std.proofs.lemmas.List.{length-map, length-set, take_all}
use Rattle.std.proofs.lemmas.Option.{get_or_from_slice_get, slice_get-map, slice_get_within, same_Some}
use Rattle.dbp_plan.specs.declared.limits.TheConstants.{MAX_OCCURRENCES}
use Rattle.dbp_plan.specs.declared.diagram.Diagram.{Diagram}
use Rattle.dbp_plan.specs.declared.diagram.Task.{Task}
use Rattle.dbp_plan.specs.declared.schedule.Batch.{Batch}
use Rattle.dbp_plan.specs.declared.schedule.Sample.{Sample}
use Rattle.dbp_plan.specs.declared.table.Table.{Table}
use Rattle.dbp_plan.specs.declared.table.TaskRows.{TaskRows}
use Rattle.dbp_plan.specs.Closed.{let_base, place_count}
use Rattle.dbp_plan.specs.Occurrences.{count_until, names, occurrence_count, times_of}
use Rattle.dbp_plan.specs.Ranked.{IsRanked}
use Rattle.dbp_plan.specs.Samples.{input_value}
use Rattle.dbp_plan.specs.Table.{IsRow}
use Rattle.dbp_plan.proofs.Numbers.{number-is, rise}
use Rattle.dbp_plan.proofs.OccurrenceLemmas.{time_here}
use Rattle.dbp_plan.specs.ListItems.{at_place, same_places, all_place, take_inside}
use Rattle.expr_eval.specs.Values.{value_of}
use Rattle.sync_meaning.specs.declared.env.Env.{Env}
use Rattle.sync_meaning.specs.declared.run.Run.{Run}
use Rattle.sync_meaning.specs.Meaning.{AreStatesAfter, HasLets, IsEnv, IsMeaning, IsRead, outs_in}
use Rattle.sync_meaning.specs.Run.{HasStreams, IsAtTime, IsRun}
use Rattle.sync_meaning.specs.FirstRows.{first_rows}
use Rattle.sync_meaning.specs.Shape.{AreCounted, AreWritten, HasFirstStates, IsMarked, IsNextBatch}
use Rattle.sync_meaning.specs.Streams.{HasRowsOfTable, IsStreamTo}
use Rattle.sync_meaning.specs.Taken.{AreTaken, AreValuesAt}
use Rattle.sync_meaning.proofs.Counts.{counted_few, counted_more, one_if}
use Rattle.sync_meaning.proofs.ExactInputs.{taken_later}
use Rattle.sync_meaning.proofs.Growing.{env_stays, read_counted, row_pushed, rows_stay, stream_all, stream_more, stream_none, stream_stays}
use Rattle.dbp_plan.proofs.RankLaws.{length-ranks, ranking}
use Rattle.sync_meaning.proofs.Runs.{IsNext, done_of, named_of}
use Rattle.sync_meaning.proofs.Sets.{item_at, refill_all, set_cases, zero_of}
use Rattle.sync_meaning.proofs.Tables.{rows_all, set_old, set_value}

-- an instance: the senses and then the reads are written over the values that stood there, and then the lets
pub record IsInstance (d : Diagram) (table : Table) (t : Task) (inputs : List ℤ) (named : List ℕ) (before sensed read env : List ℤ) : Type 0 where
  pub places : length before ≡ place_count t
  pub senses : AreWritten (length t.states) t.senses (λ s value. slice_get inputs s.input ≡ Some value) before sensed
  pub reads : AreWritten (length t.states + length t.senses) t.reads (IsRead d.links (slice_index named) table) sensed read
  pub size : length env ≡ length read
  pub given : (j : ℕ) → j < let_base t → slice_get env j ≡ slice_get read j
  pub lets : HasLets t env

state_kept : (d : Diagram) (table : Table) (t : Task) (inputs : List ℤ) (named : List ℕ) (before sensed read env : List ℤ) (k : ℕ) → IsInstance d table t inputs named before sensed read env → k < length t.states
    → slice_get env k ≡ slice_get before k
state_kept d table t inputs named before sensed read env k work below = work.given k (omega arith) ∙ work.reads.kept k (inl (omega arith)) ∙ work.senses.kept k (inl below)

-- its states are those before it
pub states_kept : (d : Diagram) (table : Table) (t : Task) (inputs : List ℤ) (named : List ℕ) (before sensed read env : List ℤ) → IsInstance d table t inputs named before sensed read env
    → take (length t.states) env ≡ take (length t.states) before
states_kept d table t inputs named before sensed read env work =
    let size : length env ≡ length before = work.size ∙ work.reads.size ∙ work.senses.size in
    let fronts : length (take (length t.states) env) ≡ length (take (length t.states) before) = omega (arith, size, length-take (length t.states) env, length-take (length t.states) before) in
    same_places (take (length t.states) env) (take (length t.states) before) fronts
    (λ k a b at_a at_b.
    let below : k < length t.states = omega (arith, slice_get_within (take (length t.states) env) k a at_a, length-take (length t.states) env) in
    same_Some _ _ (sym ((take_inside env (length t.states) k a at_a).1) ∙ state_kept d table t inputs named before sensed read env k work below ∙ (take_inside before (length t.states) k b at_b).1))

-- its environment is that of the meaning
pub env_exact : (d : Diagram) (samples : List Sample) (batches : List Batch) (table : Table) (t : Task) (time : ℕ) (inputs : List ℤ) (named : List ℕ) (before sensed read env : List ℤ)
    → IsInstance d table t inputs named before sensed read env → AreValuesAt d.inputs samples time inputs → ((i n : ℕ) → slice_get named i ≡ Some n → n ≡ count_until (times_of batches i) time)
    → All (λ l. l.writer < length named) d.links → IsEnv d samples batches table t time (take (length t.states) before) env
env_exact d samples batches table t time inputs named before sensed read env work values counts writers = record {
  size = work.size ∙ work.reads.size ∙ work.senses.size ∙ work.places;
  state = λ k value at.
      let below : k < length t.states = omega (arith, slice_get_within (take (length t.states) before) k value at, length-take (length t.states) before) in
      state_kept d table t inputs named before sensed read env k work below ∙ (take_inside before (length t.states) k value at).1;
  sense = λ k s at.
      let below : k < length t.senses = slice_get_within t.senses k s at in
      let there : length t.states + k < length sensed = omega (arith, below, work.senses.size, work.places) in
      let value : (value : ℤ) × (slice_get sensed (length t.states + k) ≡ Some value) = at_place sensed (length t.states + k) there in
      let is_value : value.0 ≡ input_value d.inputs samples s.input time = values s.input value.0 (work.senses.written k s value.0 at value.1) in
      work.given (length t.states + k) (omega (arith, below)) ∙ work.reads.kept (length t.states + k) (inl (omega (arith, below))) ∙ value.1 ∙ ap (λ (z : ℤ). Some z) is_value;
  read = λ k r value at at_w.
      let below : k < length t.reads = slice_get_within t.reads k r at in
      let is : IsRead d.links (slice_index named) table r value = work.reads.written k r value at (sym (work.given (length t.states + length t.senses + k) (omega (arith, below))) ∙ at_w) in
      read_counted d.links (slice_index named) (λ w. count_until (times_of batches w) time) table r value
      (λ l at_l.
      let link : get_or d.links r.link l ≡ l = get_or_from_slice_get d.links r.link l l at_l in
      let first : (get_or d.links r.link l).writer < length named = writers r.link l (slice_get_within d.links r.link l at_l) in
      let inside : l.writer < length named = rw link at first in
      let n : (n : ℕ) × (slice_get named l.writer ≡ Some n) = at_place named l.writer inside in
      get_or_from_slice_get named l.writer n.0 0 n.1 ∙ counts l.writer n.0 n.1) is;
  lets = work.lets;
}

-- before the first batch
pub streams_none : (d : Diagram) (samples : List Sample) (batches : List Batch) (run : Run) → run.done.items ≡ replicate (length d.tasks) 0 → run.table.tasks ≡ map first_rows d.tasks
    → HasFirstStates d.tasks run.envs.items → HasStreams d samples batches run
streams_none d samples batches run done table firsts = record {
  each = λ i m t e at_t at_m at_e.
      let none : 0 ≡ m = sym (zero_of (length d.tasks) i m run.done.items done at_m) in
      let rows : slice_get run.table.tasks i ≡ Some (first_rows t) = ap (λ (l : List TaskRows). slice_get l i) table ∙ slice_get-map first_rows d.tasks i ∙ ap (option_map first_rows) at_t in
      let words : length (map (λ o. o.first) t.outs) ≡ length t.outs = length-map t.outs (λ o. o.first) in
      let start : 0 * length t.outs ≡ 0 = omega arith in
      let whole : take ((0 + 1) * length t.outs - 0 * length t.outs) (drop (0 * length t.outs) (map (λ o. o.first) t.outs)) ≡ map (λ o. o.first) t.outs =
      ap (λ n. take ((0 + 1) * length t.outs - 0 * length t.outs) (drop n (map (λ o. o.first) t.outs))) start ∙ take_all ((0 + 1) * length t.outs - 0 * length t.outs) (map (λ o. o.first) t.outs) (omega (arith, words)) in
      let row : IsRow run.table i 0 (map (λ o. o.first) t.outs) = record { rows = first_rows t; has_rows = rows; there = omega (arith, words); is = sym whole } in
      subst (λ (k : ℕ). IsStreamTo d samples batches run.table i t k (take (length t.states) e.now)) none
      (stream_none d samples batches run.table i t (take (length t.states) e.now) row (firsts i t e at_t at_e));
}

-- the next batch is one of the plan's, and the counts may still grow
pub next_at : (P : Batch → Type 0) (batches : List Batch) (batch : Batch) (named : List ℕ) → IsNextBatch batches batch named → All P batches → P batch
next_at P batches batch named next all = all_place P batches next.place batch all next.is

pub next_few : (batches : List Batch) (batch : Batch) (named : List ℕ) → All (λ b. b.tasks ≢ []) batches → occurrence_count batches ≤ MAX_OCCURRENCES → IsNextBatch batches batch named → All (λ n. n < MAX_OCCURRENCES) named
next_few batches batch named some few next = counted_few next.place batches named (slice_get_within batches next.place batch next.is) some few next.counted

-- a batch is named and its inputs are taken
pub at_batch : (d : Diagram) (samples : List Sample) (batches : List Batch) (batch : Batch) (run later : Run) (before after : List ℕ) → IsRanked d → IsStrictlyIncreasing (map (λ b. b.time) batches) → IsRun d (length d.tasks) run
    → IsNextBatch batches batch run.named.items → before ≡ run.named.items → IsMarked batch before after → later.named.items ≡ after → later.done.items ≡ run.done.items
    → AreValuesAt d.inputs samples batch.time later.inputs.values.items → IsAtTime d samples batches later
at_batch d samples batches batch run later before after ranked rising reached next same marked_before named done values =
    let k : ℕ = next.place in
    let below : k < length batches = slice_get_within batches k batch next.is in
    let here : get_or batches k batch ≡ batch = get_or_from_slice_get batches k batch batch next.is in
    let marked : IsMarked batch run.named.items after = subst (λ (l : List ℕ). IsMarked batch l after) same marked_before in
    let counted : AreCounted (take (k + 1) batches) after = counted_more k batches batch run.named.items after next.is next.counted marked in
    record {
      time = batch.time;
      inputs = values;
      counts = λ i n at.
          counted.each i n (ap (λ (l : List ℕ). slice_get l i) (sym named) ∙ at)
          ∙ sym (number-is batches i k batch (rise batches rising) below) ∙ ap (λ (b : Batch). count_until (times_of batches i) b.time) here;
      due = λ i m n at_m at_n less.
          let at_done : slice_get run.done.items i ≡ Some m = ap (λ (l : List ℕ). slice_get l i) (sym done) ∙ at_m in
          let inside : i < length d.ranks = omega (arith, slice_get_within run.done.items i m at_done, reached.steps.counts) in
          let r : (r : ℕ) × (slice_get d.ranks i ≡ Some r) = at_place d.ranks i inside in
          let rank : r.0 < length d.tasks = omega (arith, (ranking d ranked).below i r.0 r.1, length-ranks d ranked) in
          let old : (o : ℕ) × (slice_get run.named.items i ≡ Some o) = at_place run.named.items i (omega (arith, inside, reached.steps.size)) in
          let computed : m ≡ old.0 = reached.steps.above i m old.0 r.0 r.1 rank at_done old.1 in
          let is_value : n ≡ old.0 + one_if (names i batch) = same_Some _ _ (sym (ap (λ (l : List ℕ). slice_get l i) (sym named) ∙ at_n) ∙ marked.each i old.0 old.1) in
          let is_named : names i batch ≡ true = elim (cases_Bool (names i batch)) [
            | inl is ↦ is
            | inr isnt ↦ let same_count : n ≡ old.0 + 0 = is_value ∙ ap (λ b. old.0 + one_if b) isnt in absurd (omega (arith, same_count, computed, less))
          ] in
          let count : m ≡ length (times_of (take k batches) i) = computed ∙ next.counted.each i old.0 old.1 in
          let task : names i (get_or batches k batch) ≡ true = ap (λ (b : Batch). names i b) here ∙ is_named in
          ap (λ j. slice_get (times_of batches i) j) count ∙ time_here batches k i batch below task ∙ ap (λ (b : Batch). Some b.time) here;
    }

pub streams_same : (d : Diagram) (samples : List Sample) (batches : List Batch) (run later : Run) → later.done.items ≡ run.done.items → later.envs.items ≡ run.envs.items → later.table ≡ run.table
    → HasStreams d samples batches run → HasStreams d samples batches later
streams_same d samples batches run later done envs table has = record {
  each = λ i m t e at_t at_m at_e.
      subst (λ (y : Table). IsStreamTo d samples batches y i t m (take (length t.states) e.now)) (sym table)
      (has.each i m t e at_t (ap (λ (l : List ℕ). slice_get l i) (sym done) ∙ at_m) (ap (λ (l : List Env). slice_get l i) (sym envs) ∙ at_e));
}

-- the states after an instance stand at the front
pub states_later : (t : Task) (later env after : List ℤ) → length later ≡ length t.states → after ≡ later ++ drop (length later) env → take (length t.states) after ≡ later
states_later t later env after size is =
    ap (take (length t.states)) is ∙ ap (λ (n : ℕ). take n (later ++ drop (length later) env)) (sym size) ∙ take-append_seam later (drop (length later) env)

-- one instance more
pub streams_more : (d : Diagram) (samples : List Sample) (batches : List Batch) (i n : ℕ) (t : Task) (run later : Run) (before after : Env) (env : List ℤ) (tables : List TaskRows) (old new : TaskRows)
    → IsNext d i t run → (at : IsAtTime d samples batches run) → HasStreams d samples batches run → slice_get run.envs.items i ≡ Some before
    → IsEnv d samples batches run.table t at.time (take (length t.states) before.now) env → AreStatesAfter t env (take (length t.states) before.now) (take (length t.states) after.now)
    → tables ≡ run.table.tasks → old ≡ get_or tables i old → new.ports ≡ (get_or tables i old).ports → new.words ≡ (get_or tables i old).words ++ outs_in t env
    → n ≡ get_or run.done.items i n → later.envs.items ≡ set run.envs.items i after → later.done.items ≡ set run.done.items i (n + 1)
    → later.table.tasks ≡ refill (length run.table.tasks) run.table.tasks (set tables i new) → HasStreams d samples batches later
streams_more d samples batches i n t run later before after env tables old new next at has at_e is states same read ports words number envs done table =
    let m : ℕ = get_or run.done.items i 0 in
    let at_m : slice_get run.done.items i ≡ Some m = done_of d i t run next in
    let count : n ≡ m = number ∙ get_or_from_slice_get run.done.items i m n at_m in
    let below : i < length run.table.tasks = omega (arith, slice_get_within d.tasks i t next.task, next.reached.rows.size) in
    let at_old : slice_get run.table.tasks i ≡ Some old = item_at run.table.tasks tables i old same below read in
    let old_ports : new.ports ≡ old.ports = ports ∙ ap (λ (r : TaskRows). r.ports) (sym read) in
    let old_values : new.words ≡ old.words ++ outs_in t env = words ∙ ap (λ (r : TaskRows). r.words ++ outs_in t env) (sym read) in
    let all : later.table.tasks ≡ set run.table.tasks i new = table ∙ refill_all run.table.tasks (set tables i new) (length-set tables i new ∙ ap length same) ∙ ap (λ l. set l i new) same in
    let step : later.done.items ≡ set run.done.items i (m + 1) = done ∙ ap (λ k. set run.done.items i (k + 1)) count in
    let stay : HasRowsOfTable run.table later.table = rows_stay i old new (outs_in t env) run.table later.table at_old old_ports old_values all in
    let row : IsRow later.table i (m + 1) (outs_in t env) =
    row_pushed i m (length t.outs) old new (outs_in t env) run.table later.table at_old (next.reached.rows.each i m t old next.task at_m at_old) (length-map t.outs (λ o. value_of o.expr env)) old_ports old_values all in
    let time : slice_get (times_of batches i) m ≡ Some at.time = at.due i m (get_or run.named.items i 0) at_m (named_of d i t run next) next.due in
    let old_stream : IsStreamTo d samples batches later.table i t m (take (length t.states) before.now) =
    stream_stays d samples batches run.table later.table i t m (take (length t.states) before.now) stay (has.each i m t before next.task at_m at_e) in
    let later_env : IsEnv d samples batches later.table t at.time (take (length t.states) before.now) env = env_stays d samples batches run.table later.table t at.time (take (length t.states) before.now) env stay is in
    let new_stream : IsStreamTo d samples batches later.table i t (m + 1) (take (length t.states) after.now) =
    stream_more d samples batches later.table i t m at.time (take (length t.states) before.now) env (take (length t.states) after.now) time later_env row states old_stream in
    record {
      each = λ j x u f at_u at_x at_f.
          let x_there : slice_get (set run.done.items i (m + 1)) j ≡ Some x = ap (λ (l : List ℕ). slice_get l j) (sym step) ∙ at_x in
          let f_there : slice_get (set run.envs.items i after) j ≡ Some f = ap (λ (l : List Env). slice_get l j) (sym envs) ∙ at_f in
          elim (set_cases run.envs.items i j after f f_there) [
            | inl here ↦
                let task : t ≡ u = same_Some _ _ (sym next.task ∙ ap (λ k. slice_get d.tasks k) (sym here.0) ∙ at_u) in
                let number_x : m + 1 ≡ x = sym (set_value run.done.items i j (m + 1) x here.0 x_there) in
                subst (λ (k : ℕ). IsStreamTo d samples batches later.table k u x (take (length u.states) f.now)) (sym here.0)
                (subst (λ (k : ℕ). IsStreamTo d samples batches later.table i u k (take (length u.states) f.now)) number_x
                (subst (λ (v : Task). IsStreamTo d samples batches later.table i v (m + 1) (take (length v.states) f.now)) task
                (subst (λ (g : Env). IsStreamTo d samples batches later.table i t (m + 1) (take (length t.states) g.now)) here.1 new_stream)))
            | inr there ↦
                stream_stays d samples batches run.table later.table j u x (take (length u.states) f.now) stay
                (has.each j x u f at_u (set_old run.done.items i j (m + 1) x there.0 x_there) there.1)
          ];
    }

pub time_more : (d : Diagram) (samples : List Sample) (batches : List Batch) (i n : ℕ) (t : Task) (run later : Run) → IsNext d i t run → IsAtTime d samples batches run → n ≡ get_or run.done.items i n
    → later.inputs.values.items ≡ run.inputs.values.items → later.named.items ≡ run.named.items → later.done.items ≡ set run.done.items i (n + 1) → IsAtTime d samples batches later
time_more d samples batches i n t run later next at number inputs named done =
    let m : ℕ = get_or run.done.items i 0 in
    let at_m : slice_get run.done.items i ≡ Some m = done_of d i t run next in
    let count : n ≡ m = number ∙ get_or_from_slice_get run.done.items i m n at_m in
    record {
      time = at.time;
      inputs = λ x value at_x. at.inputs x value (ap (λ (l : List ℤ). slice_get l x) (sym inputs) ∙ at_x);
      counts = λ j y at_y. at.counts j y (ap (λ (l : List ℕ). slice_get l j) (sym named) ∙ at_y);
      due = λ j x y at_x at_y less.
          let y_there : slice_get run.named.items j ≡ Some y = ap (λ (l : List ℕ). slice_get l j) (sym named) ∙ at_y in
          elim (set_cases run.done.items i j (n + 1) x (ap (λ (l : List ℕ). slice_get l j) (sym done) ∙ at_x)) [
            | inl here ↦
                let close : (m ≤ y) × (y ≤ m + 1) = next.reached.steps.each i m y at_m (ap (λ k. slice_get run.named.items k) (sym here.0) ∙ y_there) in
                absurd (omega (arith, close.1, here.1, count, less))
            | inr there ↦ at.due j x y there.1 y_there less
          ];
    }

-- from batch k on, all samples that are taken come by the batch's time
pub record IsReadyFrom (k : ℕ) (d : Diagram) (samples : List Sample) (batches : List Batch) (taken : ℕ) (values : List ℤ) : Type 0 where
  pub each : (j : ℕ) (b : Batch) → k ≤ j → slice_get batches j ≡ Some b → AreTaken d.inputs samples b.time taken values

pub ready_none : (d : Diagram) (samples : List Sample) (batches : List Batch) (taken : ℕ) (values : List ℤ) → AreTaken d.inputs samples 0 taken values → IsReadyFrom 0 d samples batches taken values
ready_none d samples batches taken values none = record { each = λ j b le at. taken_later d.inputs samples 0 b.time taken values (omega arith) none }

pub ready_more : (k : ℕ) (d : Diagram) (samples : List Sample) (batches : List Batch) (batch : Batch) (taken : ℕ) (values : List ℤ) → IsStrictlyIncreasing (map (λ b. b.time) batches) → slice_get batches k ≡ Some batch
    → AreTaken d.inputs samples batch.time taken values → IsReadyFrom (k + 1) d samples batches taken values
ready_more k d samples batches batch taken values rising at_k here = record {
  each = λ j b le at.
      let less : (get_or batches k batch).time < (get_or batches j batch).time = (rise batches rising).pairs k j batch (omega arith) (slice_get_within batches j b at) in
      let first : get_or batches k batch ≡ batch = get_or_from_slice_get batches k batch batch at_k in
      let second : get_or batches j batch ≡ b = get_or_from_slice_get batches j b batch at in
      let rises : batch.time < b.time = rw (first, second) at less in
      taken_later d.inputs samples batch.time b.time taken values (omega arith) here;
}

-- after the last batch
pub meaning_all : (d : Diagram) (samples : List Sample) (batches : List Batch) (run : Run) → IsRanked d → IsRun d (length d.tasks) run → AreCounted batches run.named.items → HasStreams d samples batches run
    → IsMeaning d samples batches run.table
meaning_all d samples batches run ranked reached counted has = record {
  rows = rows_all d batches run.table run.named.items run.done.items (ranking d ranked) (length-ranks d ranked) reached.rows reached.steps counted;
  each = λ i t at_t.
      let inside : i < length d.ranks = omega (arith, slice_get_within d.tasks i t at_t, length-ranks d ranked) in
      let r : (r : ℕ) × (slice_get d.ranks i ≡ Some r) = at_place d.ranks i inside in
      let m : (m : ℕ) × (slice_get run.done.items i ≡ Some m) = at_place run.done.items i (omega (arith, inside, reached.steps.counts)) in
      let n : (n : ℕ) × (slice_get run.named.items i ≡ Some n) = at_place run.named.items i (omega (arith, inside, reached.steps.size)) in
      let e : (e : Env) × (slice_get run.envs.items i ≡ Some e) = at_place run.envs.items i (omega (arith, slice_get_within d.tasks i t at_t, reached.envs.size)) in
      let below : r.0 < length d.tasks = omega (arith, (ranking d ranked).below i r.0 r.1, length-ranks d ranked) in
      let count : m.0 ≡ length (times_of batches i) = reached.steps.above i m.0 n.0 r.0 r.1 below m.1 n.1 ∙ counted.each i n.0 n.1 in
      stream_all d samples batches run.table i t m.0 (take (length t.states) e.0.now) count (has.each i m.0 t e.0 at_t m.1 e.1);
}
