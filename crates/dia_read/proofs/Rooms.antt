-- Where a line may follow those before it without passing a count.
use Rattle.std.proofs.Common.{◌≡◌, ℕ, ◌+◌, ◌≤◌, true, false, List, [], ◌∷◌, ◌++◌, length, filter, Some, None, refl, arith}
use Rattle.std.specs.Prelude.{nat_le, count_by, sum_by}
use Rattle.std.proofs.lemmas.Bool.Decides.{nat_tests}
use Rattle.dbp_plan.specs.declared.limits.TheConstants.{MAX_TASKS, MAX_INPUTS, MAX_EVENTS, MAX_READS, MAX_READ_LINES, MAX_OUTS, MAX_BODY}
use Rattle.dia_lines.specs.declared.item.Decl.{Decl}
use Rattle.dia_lines.specs.declared.item.Decl.TheVariants.{Input, Event}
use Rattle.dia_lines.specs.declared.item.Part.{Part}
use Rattle.dia_lines.specs.declared.item.Part.TheVariants as part
use Rattle.dia_lines.specs.declared.item.TaskLine.{TaskLine}
use Rattle.dia_lines.specs.Statements.{Statement}
use Rattle.dia_lines.specs.Places.{is_body}
use Rattle.dia_lines.specs.Limits.{is_input, is_event, is_task, is_read, is_out, of_this_task, passed_count}
use Rattle.dia_print.proofs.ItemStatements.{decl_statement, task_statement, part_statement}
use Rattle.dia_read.specs.declared.document.RawTask.{RawTask}
use Rattle.dia_read.specs.declared.draft.Draft.{Draft}
use Rattle.dia_read.specs.Printable.{is_input_decl, is_event_decl, is_read_part, is_out_part}
use Rattle.dia_read.proofs.Holding.{all_tasks}
use Rattle.dia_read.proofs.Printing.{Prints, IsLatest, reads_of, count-more}

open-count : (count most : ℕ) → count + 1 ≤ most → nat_le most count ≡ false
open-count count most h = grind (arith, nat_tests)

-- a declaration
pub decl-room : (ss : List Statement) (d : Draft) (x : Decl) → Prints ss d → count_by is_input_decl (d.decls ++ x ∷ []) ≤ MAX_INPUTS → count_by is_event_decl (d.decls ++ x ∷ []) ≤ MAX_EVENTS → passed_count ss (decl_statement x) ≡ None
decl-room ss d (Input n v) p few_inputs few_events = rw (open-count (length (filter is_input ss)) MAX_INPUTS (omega (arith, p.inputs, count-more is_input_decl d.decls (Input n v), few_inputs))) refl
decl-room ss d (Event n) p few_inputs few_events = rw (open-count (length (filter is_event ss)) MAX_EVENTS (omega (arith, p.events, count-more is_event_decl d.decls (Event n), few_events))) refl

-- a task
pub task-room : (ss : List Statement) (d : Draft) (version : ℕ) (t : TaskLine) → Prints ss d → length (all_tasks d.tasks) + 1 ≤ MAX_TASKS → passed_count ss (task_statement version t) ≡ None
task-room ss d version t p few = rw (open-count (length (filter is_task ss)) MAX_TASKS (omega (arith, p.tasks, few))) refl

-- a line of a body, after these of its task
pub part-room : (ss : List Statement) (d : Draft) (t : RawTask) (x : Part) → Prints ss d → d.tasks.latest ≡ Some t → length t.parts + 1 ≤ MAX_BODY
    → (is_read_part x ≡ true → (reads_of t + 1 ≤ MAX_READS) × (sum_by reads_of (all_tasks d.tasks) + 1 ≤ MAX_READ_LINES)) → (is_out_part x ≡ true → count_by is_out_part t.parts + 1 ≤ MAX_OUTS)
    → passed_count ss (part_statement x) ≡ None
part-room ss d t x p is body reads outs = one x reads outs
  where
    latest : IsLatest ss t
    latest = let l = p.latest in rw is at l

    full : nat_le MAX_BODY (length (filter is_body (of_this_task ss))) ≡ false
    full = open-count (length (filter is_body (of_this_task ss))) MAX_BODY (omega (arith, latest.body, body))

    one : (x : Part) → (is_read_part x ≡ true → (reads_of t + 1 ≤ MAX_READS) × (sum_by reads_of (all_tasks d.tasks) + 1 ≤ MAX_READ_LINES)) → (is_out_part x ≡ true → count_by is_out_part t.parts + 1 ≤ MAX_OUTS)
        → passed_count ss (part_statement x) ≡ None
    one (part.State n v) reads outs = rw full refl
    one (part.Sense n i) reads outs = rw full refl
    one (part.Read n e w q a) reads outs =
        rw (
          full,
          open-count (length (filter is_read (of_this_task ss))) MAX_READS (omega (arith, latest.reads, (reads refl).0)),
          open-count (length (filter is_read ss)) MAX_READ_LINES (omega (arith, p.links, (reads refl).1)),
        ) refl
    one (part.Let n e) reads outs = rw full refl
    one (part.Next n e) reads outs = rw full refl
    one (part.Out n v e) reads outs = rw (full, open-count (length (filter is_out (of_this_task ss))) MAX_OUTS (omega (arith, latest.outs, outs refl))) refl
