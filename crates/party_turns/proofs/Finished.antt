-- The rows of parties that have finished are the meaning.
use Rattle.std.proofs.Common.{◌≡◌, ⊎_elim, ℕ, zero, suc, ◌-◌, ◌<◌, ◌≤◌, List, [], ◌∷◌, ◌++◌, length, get_or, slice_get, Some, refl, sym, ◌∙◌, ap, subst, arith}
use Rattle.std.proofs.lemmas.Option.{slice_get_within, get_or_from_slice_get}
use Rattle.dbp_plan.specs.declared.plan.Plan.{Plan}
use Rattle.dbp_plan.specs.declared.table.Table.{Table}
use Rattle.dbp_plan.specs.declared.table.TaskRows.{TaskRows}
use Rattle.dbp_plan.specs.declared.diagram.Task.{Task as Declared}
use Rattle.dbp_plan.specs.Lookups.{declared_task, no_declared_task}
use Rattle.dbp_plan.specs.Occurrences.{times_of}
use Rattle.dbp_plan.specs.ListItems.{at_place, read_place}
use Rattle.dbp_plan.specs.Table.{HasAllRows, HasRowsOf}
use Rattle.sync_meaning.specs.SomeMeaning.{meaning_of, meaning_of-is}
use Rattle.sync_meaning.specs.SomeMeaningTables.{table_row-at, same_table}
use Rattle.dbp_rules.specs.Lookups.{wired_task}
use Rattle.word_rule.specs.Roles.{run_wiring}
use Rattle.word_rule.specs.Seats.{TaskSits}
use Rattle.word_rule.specs.declared.seats.SlotWords.{SlotWords}
use Rattle.word_rule.proofs.Begins.{get_push}
use Rattle.word_rule.proofs.TaskCalls.{task_wired, wired_is}
use Rattle.party_turns.specs.Computed.{HasMeantRows, plan_of_task}
use Rattle.party_turns.specs.Parties.{HasFinished, HaveFinished, IsPartyAt}
use Rattle.party_turns.specs.Turns.{TaskHasFinished}
use Rattle.party_turns.specs.declared.party.Party.{Party}
use Rattle.party_turns.specs.declared.party.Party.TheVariants.{Releaser, Task}
use Rattle.party_turns.specs.declared.releaser_party.ReleaserParty.{ReleaserParty}
use Rattle.party_turns.specs.declared.task_party.TaskParty.{TaskParty}

-- the rows are all rows of the task
abbrev pub HasAll : SlotWords → ℕ → TaskRows → Type 0
HasAll w i rows = HasMeantRows w.plan i (length (times_of w.plan.batches i)) rows

-- the rows of tasks so far, each at its task's place
abbrev pub AreAll : SlotWords → List TaskRows → Type 0
AreAll w tasks = (i : ℕ) (rows : TaskRows) → slice_get tasks i ≡ Some rows → HasAll w i rows

-- a party that has finished has all rows of its task
pub finished_rows : (w : SlotWords) (i : ℕ) (s : TaskParty) → TaskSits w s.seat → s.seat.task ≡ i → TaskHasFinished w s → HasAll w i s.rows
finished_rows w i s here is done =
    let wired_times : (wired_task (run_wiring (plan_of_task s.seat)) s.seat.task).times ≡ times_of (plan_of_task s.seat).batches s.seat.task = (task_wired w s.seat here).times in
    let all : s.seat.part.ended ≡ length (times_of (plan_of_task s.seat).batches s.seat.task) = done ∙ ap (λ x. length x.times) (sym (wired_is w s.seat here)) ∙ ap length wired_times in
    let has : HasMeantRows (plan_of_task s.seat) s.seat.task (length (times_of (plan_of_task s.seat).batches s.seat.task)) s.rows = record {
      room = s.computed.rows.room;
      each = λ n few. s.computed.rows.each n (omega (arith, few, all));
    } in
    subst (λ (x : Plan × ℕ). HasMeantRows x.0 x.1 (length (times_of x.0.batches x.1)) s.rows) (λ j. (here.1 j, is j)) has

pub all_push : (w : SlotWords) (tasks : List TaskRows) (rows : TaskRows) → AreAll w tasks → HasAll w (length tasks) rows → AreAll w (tasks ++ rows ∷ [])
all_push w tasks rows each last i r at = ⊎_elim
    (λ (was : slice_get tasks i ≡ Some r). each i r was)
    (λ (here : (i ≡ length tasks) × (rows ≡ r)). subst (λ (y : ℕ × TaskRows). HasAll w y.0 y.1) (λ j. (sym here.0 j, here.1 j)) last)
    (get_push tasks rows r i at)

-- the place of a task's party, and that of the releaser's
task_place : (w : SlotWords) (k : ℕ) (s : TaskParty) → IsPartyAt w k (Task s) × TaskHasFinished w s → (1 ≤ k) × HasAll w (k - 1) s.rows
task_place w zero s h = elim h.0 [ ]
task_place w (suc i) s h = let one : i ≡ suc i - 1 = omega arith in (omega arith, subst (λ (n : ℕ). HasAll w n s.rows) one (finished_rows w i s h.0.0 h.0.1 h.1))

releaser_place : (w : SlotWords) (k : ℕ) (s : ReleaserParty) → IsPartyAt w k (Releaser s) → k ≡ 0
releaser_place w zero s h = refl
releaser_place w (suc i) s h = elim h [ ]

-- the party that stands at a place of parties that have finished
module _ (w : SlotWords) (ps : List Party) (h : HaveFinished w ps) (k : ℕ) (d : Party) (below : k < length ps) (read : d ≡ get_or ps k d) where
  there : IsPartyAt w k d × HasFinished w d
  there = (h.parties.each k d (read_place ps k d below read), subst (HasFinished w) (sym read) (h.finished k d below))

  pub task_row : (s : TaskParty) → d ≡ Task s → (1 ≤ k) × HasAll w (k - 1) s.rows
  task_row s is = task_place w k s (subst (λ (p : Party). IsPartyAt w k p × HasFinished w p) is there)

  pub no_row : (s : ReleaserParty) → d ≡ Releaser s → k ≡ 0
  no_row s is = releaser_place w k s (subst (IsPartyAt w k) is there.0)

-- a table with all rows is the meaning
module _ (w : SlotWords) (tasks : List TaskRows) (size : length tasks ≡ length w.plan.diagram.tasks) (each : AreAll w tasks) where
  abbrev made : Table
  made = record { tasks = tasks }

  abbrev p : Plan
  p = w.plan

  has : HasAllRows p.diagram.tasks p.batches made
  has = record {
    size = size;
    each = λ i t rows at_task at_rows.
        let same : declared_task p i ≡ t = get_or_from_slice_get p.diagram.tasks i t no_declared_task at_task in
        subst (λ (d : Declared). HasRowsOf (length d.outs) (length (times_of p.batches i)) rows) same (each i rows at_rows).room;
  }

  pub all_rows : made ≡ meaning_of w.plan
  all_rows = same_table p.diagram.tasks p.batches made (meaning_of p) has (meaning_of-is p).rows (λ i n t at_task few.
      let inside : i < length tasks = omega (arith, size, slice_get_within p.diagram.tasks i t at_task) in
      let rows : (r : TaskRows) × (slice_get tasks i ≡ Some r) = at_place tasks i inside in
      table_row-at made i n rows.0 rows.1 ∙ (each i rows.0 rows.1).each n few)
