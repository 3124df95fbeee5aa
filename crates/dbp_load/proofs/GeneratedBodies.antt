-- A generated document can be printed.
use Rattle.std.proofs.Common.{ℕ, pos, ◌+◌, ◌*◌, ◌<◌, ◌≤◌, [], map, refl, arith}
use Rattle.std.specs.Prelude.{codes, count_by}
use Rattle.std.proofs.lemmas.Bool.{ltb-true}
use Rattle.dia_lines.specs.declared.item.Decl.TheVariants.{Input}
use Rattle.dia_lines.specs.Lines.{SaysInTrace, row}
use Rattle.dia_read.specs.declared.document.RawTask.{RawTask}
use Rattle.dia_read.specs.Printable.{is_read_part, IsPrintable, IsPrintableDecl, IsPrintableTask, IsPlainTask, KeepsItself}
use Rattle.trace_rows.specs.Headers.{kind_of_column}
use Rattle.trace_rows.proofs.WrittenRows.{each-row}
use Rattle.trace_rows.proofs.WrittenText.{section-kept}
use Rattle.dbp_load.specs.Bodies.{early_count, few_early, generated_body, generated_task, has_late, trace_row, trace_text, words_before}
use Rattle.drawn_numbers.specs.Draws.{after_draw, after_draws}
use Rattle.dbp_load.specs.Listed.{first_items}
use Rattle.drawn_numbers.proofs.DrawLaws.{drawn-below}
use Rattle.dbp_load.proofs.GeneratedParts.{few-lines, parts-print}
use Rattle.dbp_load.proofs.GeneratedTraces.{can-write, the_columns, the_inputs}
use Rattle.dia_check.proofs.PlaceLaws.{only-one}
use Rattle.dbp_load.proofs.ListedItems.{all-listed, length-listed, sum-listed}
use Rattle.dbp_load.proofs.NameTexts.{g-prints, task-prints}

pub task-printable : (size draws i : ℕ) → size ≤ 32 → i < size → IsPrintableTask (generated_task size draws i)
task-printable size draws i few inside =
    let period = drawn-below size draws (omega arith) in
    let lines = few-lines size (after_draw draws) i (early_count i) (has_late size i) (few_early i) in
    record {
      line = record {
        named = task-prints i (omega arith);
        clock = (omega arith, omega (arith, period), omega arith);
        when = tt;
        prio = omega arith;
        deadline = tt;
        cost = (omega arith, omega arith);
        cpu = omega arith;
      };
      parts = parts-print size (after_draw draws) i few inside (early_count i) (has_late size i) (few_early i) (omega arith) (λ more. ltb-true (i + 1) size more);
      body = omega (arith, lines.lines);
      reads = omega (arith, lines.reads);
      outs = omega (arith, lines.outs);
    }

trace-kept : (size : ℕ) → 1 ≤ size → size ≤ 32 → KeepsItself SaysInTrace row (trace_text size)
trace-kept size some few =
    let rows = first_items (trace_row size) 10 in
    let can = can-write size 10 some few (omega arith) in
    section-kept (map (kind_of_column the_inputs) the_columns) the_columns rows can.names (each-row (500 * size) the_inputs [] the_columns rows can)

pub printable : (seed size : ℕ) → 1 ≤ size → size ≤ 32 → IsPrintable (generated_body seed size)
printable seed size some few =
    let draws : ℕ → ℕ = λ i. after_draws (words_before i) seed in
    let task : ℕ → RawTask = λ i. generated_task size (draws i) i in
    let reads = sum-listed task (λ (t : RawTask). count_by is_read_part t.parts) 4 size (λ i inside.
    (few-lines size (after_draw (draws i)) i (early_count i) (has_late size i) (few_early i)).reads) in
    record {
      version = (omega arith, omega arith);
      plain = λ _. all-listed task IsPlainTask size (λ i inside. (refl, refl));
      until = omega arith;
      decls = only-one IsPrintableDecl (Input (codes "g") (pos 1)) (g-prints, omega arith);
      inputs = omega arith;
      events = omega arith;
      tasks = all-listed task IsPrintableTask size (λ i inside. task-printable size (draws i) i few inside);
      few = omega (arith, length-listed task size);
      links = omega (arith, reads);
      trace = trace-kept size some few;
      script = tt;
    }
