-- A run, before, in and after its batches.
use Rattle.std.proofs.Common.{◌≡◌, ◌≢◌, ℕ, ℤ, ◌<◌, ◌≤◌, ◌+◌, ◌^◌, List, ◌++◌, length, map, get_or, slice_get, set, drop, Some, sym, ◌∙◌, ap, arith, subst, length-append, length-drop}
use Rattle.std.specs.Prelude.{All, slice_index, replicate}
use Rattle.std.specs.List.{refill}
use Rattle.std.proofs.lemmas.List.{length-map, length-set}
use Rattle.std.proofs.lemmas.Option.{slice_get-get_or, slice_get_within, get_or_from_slice_get}
use Rattle.dbp_plan.specs.declared.limits.TheConstants.{MAX_OCCURRENCES, MAX_OUTS}
use Rattle.dbp_plan.specs.declared.diagram.Diagram.{Diagram}
use Rattle.dbp_plan.specs.declared.diagram.Task.{Task}
use Rattle.dbp_plan.specs.declared.table.TaskRows.{TaskRows}
use Rattle.dbp_plan.specs.declared.schedule.Batch.{Batch}
use Rattle.dbp_plan.specs.declared.plan.Plan.{Plan}
use Rattle.dbp_plan.specs.Closed.{IsClosedTask}
use Rattle.dbp_plan.specs.Ranked.{IsRanked}
use Rattle.dbp_plan.specs.Table.{HasRowsOf}
use Rattle.sync_meaning.specs.declared.env.Env.{Env}
use Rattle.sync_meaning.specs.declared.run.Run.{Run}
use Rattle.dbp_plan.specs.Ranking.{IsByRank}
use Rattle.sync_meaning.specs.Run.{IsRun}
use Rattle.sync_meaning.specs.FirstRows.{first_rows}
use Rattle.sync_meaning.specs.Shape.{HasEnvs, IsEnvOf, IsMarked, IsReadable}
use Rattle.dbp_plan.proofs.RankLaws.{ranking, length-ranks}
use Rattle.dbp_plan.specs.ListItems.{all_place}
use Rattle.sync_meaning.proofs.Tables.{envs_step, readable, row_fits, rows_none, rows_step}
use Rattle.sync_meaning.proofs.Sets.{item_at, refill_all}
use Rattle.sync_meaning.proofs.Steps.{done_marked, done_none, done_skip, done_step}

pub run_none : (d : Diagram) (rank : ℕ) (run : Run) → length d.ranks ≡ length d.tasks → run.inputs.values.items ≡ map (λ i. i.first) d.inputs → HasEnvs d.tasks run.envs.items
    → run.named.items ≡ replicate (length d.tasks) 0 → run.done.items ≡ replicate (length d.tasks) 0 → run.table.tasks ≡ map first_rows d.tasks → IsRun d rank run
run_none d rank run size inputs envs named done table = record {
  inputs = ap length inputs ∙ length-map d.inputs (λ i. i.first);
  envs = envs;
  rows = rows_none d.tasks run.done.items run.table.tasks done table;
  steps = done_none (length d.tasks) rank d.ranks run.named.items run.done.items size named done;
}

-- task i of a ranked diagram, in a run where it is the next by rank and due
pub record IsNext (d : Diagram) (i : ℕ) (t : Task) (run : Run) : Type 0 where
  pub ranked : IsRanked d
  pub task : slice_get d.tasks i ≡ Some t
  pub reached : IsRun d (get_or d.ranks i 0) run
  pub due : get_or run.done.items i 0 < get_or run.named.items i 0
  pub few : All (λ n. n ≤ MAX_OCCURRENCES) run.named.items

pub is_next : (plan : Plan) (i : ℕ) (t : Task) (tasks : List Task) (run : Run) → tasks ≡ plan.diagram.tasks → i < length plan.diagram.tasks → t ≡ get_or tasks i t
    → IsRun plan.diagram (get_or plan.diagram.ranks i 0) run → get_or run.done.items i 0 < get_or run.named.items i 0 → All (λ n. n ≤ MAX_OCCURRENCES) run.named.items → IsNext plan.diagram i t run
is_next plan i t tasks run same below is reached due few = record {
  ranked = plan.rules.ranked;
  task = item_at plan.diagram.tasks tasks i t same below is;
  reached = reached;
  due = due;
  few = few;
}

inside_ranks : (d : Diagram) (i : ℕ) (t : Task) (run : Run) → IsNext d i t run → i < length d.ranks
inside_ranks d i t run next = omega (arith, slice_get_within d.tasks i t next.task, length-ranks d next.ranked)

rank_of : (d : Diagram) (i : ℕ) (t : Task) (run : Run) → IsNext d i t run → slice_get d.ranks i ≡ Some (get_or d.ranks i 0)
rank_of d i t run next = slice_get-get_or d.ranks i 0 (inside_ranks d i t run next)

pub done_of : (d : Diagram) (i : ℕ) (t : Task) (run : Run) → IsNext d i t run → slice_get run.done.items i ≡ Some (get_or run.done.items i 0)
done_of d i t run next = slice_get-get_or run.done.items i 0 (omega (arith, inside_ranks d i t run next, next.reached.steps.counts))

pub named_of : (d : Diagram) (i : ℕ) (t : Task) (run : Run) → IsNext d i t run → slice_get run.named.items i ≡ Some (get_or run.named.items i 0)
named_of d i t run next = slice_get-get_or run.named.items i 0 (omega (arith, inside_ranks d i t run next, next.reached.steps.size))

closed_task : (d : Diagram) (i : ℕ) (t : Task) → IsRanked d → slice_get d.tasks i ≡ Some t → IsClosedTask (length d.inputs) (length d.events) (length d.links) t
closed_task d i t ranked at = all_place (IsClosedTask (length d.inputs) (length d.events) (length d.links)) d.tasks i t ranked.closed.each at

-- it can read
pub next_reads : (d : Diagram) (i : ℕ) (t : Task) (run : Run) → IsNext d i t run → All (λ r. IsReadable d.links (slice_index run.named.items) run.table r) t.reads
next_reads d i t run next k e below =
    readable d i k (get_or d.ranks i 0) t (get_or t.reads k e) run.named.items run.done.items run.table next.ranked next.task (slice_get-get_or t.reads k e below)
    (rank_of d i t run next) next.reached.steps next.reached.rows

-- and each writer is counted
pub next_writers : (d : Diagram) (i : ℕ) (t : Task) (run : Run) → IsNext d i t run → All (λ l. l.writer < length run.named.items) d.links
next_writers d i t run next k e below =
    let ends : ((get_or d.links k e).writer < length d.tasks) × ((get_or d.links k e).reader < length d.tasks) × ((get_or d.links k e).writer ≢ (get_or d.links k e).reader) = next.ranked.closed.ends k e below in
    omega (arith, ends.0, next.reached.steps.size, length-ranks d next.ranked)

-- its row has room
pub next_fits : (d : Diagram) (i : ℕ) (t : Task) (run : Run) (rows : TaskRows) (row : List ℤ) → IsNext d i t run → slice_get run.table.tasks i ≡ Some rows → length row ≡ length t.outs → length rows.words + length row < 2 ^ 32
next_fits d i t run rows row next at size =
    let m : ℕ = get_or run.done.items i 0 in
    let n : ℕ = get_or run.named.items i 0 in
    let has : HasRowsOf (length t.outs) m rows = next.reached.rows.each i m t rows next.task (done_of d i t run next) at in
    let most : n ≤ MAX_OCCURRENCES = next.few i 0 (slice_get_within run.named.items i n (named_of d i t run next)) in
    let due : m < n = next.due in
    let few : length t.outs ≤ MAX_OUTS = (closed_task d i t next.ranked next.task).outs.1 in
    omega (arith, row_fits (length t.outs) m rows has few (omega arith))

-- and then the next rank is computed
pub next_more : (d : Diagram) (i n : ℕ) (t : Task) (run later : Run) (env : Env) (tables : List TaskRows) (old new : TaskRows) (row : List ℤ) → IsNext d i t run → IsEnvOf t env
    → tables ≡ run.table.tasks → old ≡ get_or tables i old → new.ports ≡ (get_or tables i old).ports → new.words ≡ (get_or tables i old).words ++ row → length row ≡ length t.outs
    → n ≡ get_or run.done.items i n → length later.inputs.values.items ≡ length run.inputs.values.items → later.envs.items ≡ set run.envs.items i env → later.named.items ≡ run.named.items
    → later.done.items ≡ set run.done.items i (n + 1) → later.table.tasks ≡ refill (length run.table.tasks) run.table.tasks (set tables i new) → IsRun d (get_or d.ranks i 0 + 1) later
next_more d i n t run later env tables old new row next fits same is ports words outs number inputs envs named done table =
    let rank : ℕ = get_or d.ranks i 0 in
    let m : ℕ = get_or run.done.items i 0 in
    let at_m : slice_get run.done.items i ≡ Some m = done_of d i t run next in
    let count : n ≡ m = number ∙ get_or_from_slice_get run.done.items i m n at_m in
    let below : i < length run.table.tasks = omega (arith, slice_get_within d.tasks i t next.task, next.reached.rows.size) in
    let at_old : slice_get run.table.tasks i ≡ Some old = item_at run.table.tasks tables i old same below is in
    let old_ports : new.ports ≡ old.ports = ports ∙ ap (λ (r : TaskRows). r.ports) (sym is) in
    let size : length new.words ≡ length old.words + length t.outs = ap length (words ∙ ap (λ (r : TaskRows). r.words ++ row) (sym is)) ∙ length-append old.words row ∙ ap (λ k. length old.words + k) outs in
    let all : later.table.tasks ≡ set run.table.tasks i new = table ∙ refill_all run.table.tasks (set tables i new) (length-set tables i new ∙ ap length same) ∙ ap (λ l. set l i new) same in
    let step : later.done.items ≡ set run.done.items i (m + 1) = done ∙ ap (λ k. set run.done.items i (k + 1)) count in
    record {
      inputs = inputs ∙ next.reached.inputs;
      envs = rw envs (envs_step i t env d.tasks run.envs.items next.reached.envs next.task fits);
      rows = rw (step, all) (rows_step i m t old new d.tasks run.done.items run.table.tasks next.reached.rows next.task at_m at_old old_ports size);
      steps = rw (step, named) (done_step i m (get_or run.named.items i 0) rank d.ranks run.named.items run.done.items (ranking d next.ranked) (rank_of d i t run next) at_m (named_of d i t run next) next.due next.reached.steps);
    }

-- the task at a place of the order by ranks
pub ranked_at : (ranks tasks : List ℕ) (k : ℕ) → IsByRank ranks tasks → k < length tasks → slice_get ranks (get_or tasks k 0) ≡ Some k
ranked_at ranks tasks k by_rank below = by_rank.rank (get_or tasks k 0) k (slice_get-get_or tasks k 0 below)

-- a task that isn't due is passed over
pub next_skip : (d : Diagram) (i k : ℕ) (run : Run) → IsRanked d → slice_get d.ranks i ≡ Some k → get_or run.named.items i 0 ≤ get_or run.done.items i 0 → IsRun d k run → IsRun d (k + 1) run
next_skip d i k run ranked at none reached =
    let inside : i < length d.ranks = slice_get_within d.ranks i k at in
    let m : slice_get run.done.items i ≡ Some (get_or run.done.items i 0) = slice_get-get_or run.done.items i 0 (omega (arith, inside, reached.steps.counts)) in
    let n : slice_get run.named.items i ≡ Some (get_or run.named.items i 0) = slice_get-get_or run.named.items i 0 (omega (arith, inside, reached.steps.size)) in
    record {
      inputs = reached.inputs;
      envs = reached.envs;
      rows = reached.rows;
      steps = done_skip i (get_or run.done.items i 0) (get_or run.named.items i 0) k d.ranks run.named.items run.done.items (ranking d ranked) at m n none reached.steps;
    }

-- the values of an environment whose states go on
pub advanced : (t : Task) (before after : Env) → IsEnvOf t before → after.now ≡ before.later ++ drop (length before.later) before.now → after.later ≡ before.later → IsEnvOf t after
advanced t before after fits now later = record {
  now = ap length now ∙ length-append before.later (drop (length before.later) before.now) ∙ omega (arith, length-drop (length before.later) before.now, fits.now, fits.later, before.fits);
  later = ap length later ∙ fits.later;
}

-- a batch is named
pub run_marked : (d : Diagram) (batch : Batch) (run later : Run) (before after : List ℕ) → IsRanked d → IsRun d (length d.tasks) run → before ≡ run.named.items → IsMarked batch before after
    → length later.inputs.values.items ≡ length run.inputs.values.items → later.envs.items ≡ run.envs.items → later.done.items ≡ run.done.items → later.table.tasks ≡ run.table.tasks
    → later.named.items ≡ after → IsRun d 0 later
run_marked d batch run later before after ranked reached same marked inputs envs done table named =
    let below : (i r : ℕ) → slice_get d.ranks i ≡ Some r → r < length d.tasks = λ i r at. omega (arith, (ranking d ranked).below i r at, length-ranks d ranked) in
    record {
      inputs = inputs ∙ reached.inputs;
      envs = rw envs reached.envs;
      rows = rw (done, table) reached.rows;
      steps = rw (named, done) (done_marked batch (length d.tasks) d.ranks run.named.items after run.done.items below reached.steps (subst (λ (l : List ℕ). IsMarked batch l after) same marked));
    }

-- a task that is ranked has its counts
pub has_counts : (d : Diagram) (i k rank : ℕ) (run : Run) → slice_get d.ranks i ≡ Some k → IsRun d rank run → (i < length run.done.items) × (i < length run.named.items)
has_counts d i k rank run at reached =
    let inside : i < length d.ranks = slice_get_within d.ranks i k at in
    (omega (arith, inside, reached.steps.counts), omega (arith, inside, reached.steps.size))

-- and its rank by the default
pub rank_read : (ranks : List ℕ) (i k : ℕ) → slice_get ranks i ≡ Some k → k ≡ get_or ranks i 0
rank_read ranks i k at = sym (get_or_from_slice_get ranks i k 0 at)
