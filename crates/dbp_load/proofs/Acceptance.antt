-- A generated document is checked, its trace is a written one, and its tasks don't occur too often.
use Rattle.std.proofs.Common.{◌≡◌, ℕ, ◌+◌, ◌-◌, ◌≤◌, List, [], length, take, Some, None, refl, sym, ap, ◌∙◌, subst, arith}
use Rattle.std.specs.Prelude.{slice_get}
use Rattle.std.proofs.lemmas.Bool.{ltb-true}
use Rattle.dbp_plan.specs.declared.diagram.Diagram.{Diagram}
use Rattle.dbp_plan.specs.declared.diagram.Task.{Task}
use Rattle.dbp_plan.specs.declared.limits.TheConstants.{MAX_OCCURRENCES}
use Rattle.dbp_plan.specs.declared.schedule.Sample.{Sample}
use Rattle.dia_read.specs.declared.document.Body.{Body}
use Rattle.dia_read.specs.declared.document.Doc.{Doc}
use Rattle.dia_read.specs.declared.document.DocLines.{DocLines}
use Rattle.dia_read.specs.declared.document.RawTask.{RawTask}
use Rattle.dia_check.specs.Checks.{IsCheckedOf}
use Rattle.dia_check.specs.Diagrams.{task_of, IsDiagramOf}
use Rattle.dia_lines.specs.declared.item.RawClock.TheVariants as raw_clock
use Rattle.dia_check.specs.Faults.{decl_fault, part_fault, task_fault, HasNoShapeFault, IsWhole}
use Rattle.dia_check.specs.RankFaults.{ranked_diagram, HasNoRankFault}
use Rattle.dia_check.specs.Shapes.{read_lines_of, IsShapeOf}
use Rattle.dia_check.specs.declared.shaped.Shaped.{Shaped}
use Rattle.dia_check.proofs.Faultless.{IsFaultless, no-line-fault}
use Rattle.trace_rows.specs.Written.{written_samples}
use Rattle.dia_check.specs.Names.{env_names}
use Rattle.trace_io.specs.Batches.{times_in, total_of}
use Rattle.trace_io.specs.Counts.{count_of}
use Rattle.trace_io.specs.WrittenTraces.{HasWrittenTrace, written_events}
use Rattle.trace_io.proofs.Counting.{base-count}
use Rattle.trace_io.proofs.MergeClocks.{plain-times}
use Rattle.dbp_load.specs.Bodies.{early_count, few_early, generated_body, has_late, trace_row, words_before}
use Rattle.drawn_numbers.specs.Draws.{after_draw, after_draws, drawn}
use Rattle.dbp_load.specs.Listed.{first_items}
use Rattle.drawn_numbers.proofs.DrawLaws.{drawn-below}
use Rattle.dbp_load.proofs.FaultlessLines.{AreFine, fine-at}
use Rattle.dbp_load.proofs.GeneratedDiagrams.{diagram_of, is-diagram, no-rank-faults, whole}
use Rattle.dbp_load.proofs.GeneratedNames.{new-name, parts-fine, ports, task_at}
use Rattle.dbp_load.proofs.GeneratedShapes.{lets-none}
use Rattle.dbp_load.proofs.GeneratedClocks.{few-times}
use Rattle.dbp_load.proofs.GeneratedTraces.{can-write, the_columns}
use Rattle.dbp_load.proofs.ListedItems.{listed-item, sum-listed, take-listed}

module _ (seed size : ℕ) (some : 1 ≤ size) (few : size ≤ 32) where
  abbrev body : Body
  body = generated_body seed size

  abbrev draws : ℕ → ℕ
  draws i = after_draws (words_before i) seed

  abbrev task : ℕ → RawTask
  task i = task_at draws size few i

  -- ---- names and shape

  -- a task without a fault, after these
  abbrev IsFine : List RawTask → RawTask → Type 0
  IsFine before t = (task_fault body before t ≡ None) × AreFine (part_fault body t) [] t.parts

  task-fine : (i : ℕ) (t : RawTask) → slice_get body.tasks i ≡ Some t → IsFine (take i body.tasks) t
  task-fine i t at =
      let is = listed-item task size i t at in
      let front : take i body.tasks ≡ first_items task i = take-listed task size i (omega (arith, is.0)) in
      let new = new-name draws size few i is.0 in
      subst (λ u. IsFine (take i body.tasks) u) (sym is.1)
      (subst (λ before. IsFine before (task i)) (sym front) (
        rw new refl,
        parts-fine body size refl (ports draws size few) (after_draw (draws i)) i (raw_clock.Every (size + drawn size (draws i)) 0) (Some (size - i)) few is.0 (early_count i) (has_late size i) (few_early i) (omega arith) (λ more. ltb-true (i + 1) size more),
      ))

  fine : IsFaultless body
  fine = record {
    decls = fine-at decl_fault [] body.decls (refl, tt);
    tasks = λ i t at. (task-fine i t at).0;
    parts = λ i j t p at at_part. fine-at (part_fault body t) [] t.parts (task-fine i t at).1 j p at_part;
  }

  module _ (lines : DocLines) where
    abbrev doc : Doc
    doc = record { body = body; lines = lines }

    none : HasNoShapeFault doc
    none = record {
      lines = no-line-fault doc fine;
      whole = λ i t at. let is = listed-item task size i t at in subst IsWhole (sym is.1) (whole size (draws i) i);
    }

    abbrev plain : Diagram
    plain = diagram_of body task size

    abbrev shaped : Shaped
    shaped = record { diagram = plain; task_lines = lines.tasks; read_lines = read_lines_of doc }

    says : IsDiagramOf body plain
    says = is-diagram body task size refl (λ i. lets-none size (after_draw (draws i)) i (env_names (task i).parts) (early_count i) (has_late size i) (few_early i))

    shape : IsShapeOf doc shaped
    shape = record { faultless = none; diagram = says; unranked = refl; task_lines = refl; read_lines = refl }

    ranks : HasNoRankFault shaped
    ranks = no-rank-faults body draws size few refl refl lines.tasks (read_lines_of doc)

    abbrev pub diagram : Diagram
    diagram = ranked_diagram plain

    pub checked : IsCheckedOf doc diagram
    checked = record { shaped = shaped; shape = shape; ranks = ranks; is = refl }

    -- ---- the trace

    pub written : HasWrittenTrace doc diagram the_columns (first_items (trace_row size) 10)
    written = record { section = refl; can = can-write size 10 some few (omega arith) }

    abbrev pub samples : List Sample
    samples = written_samples the_columns (first_items (trace_row size) 10) diagram.inputs

    abbrev pub events : List (List ℕ)
    events = written_events diagram the_columns (first_items (trace_row size) 10)

    abbrev one : ℕ → Task
    one i = task_of body i (task i) []

    pub few-occurrences : total_of diagram samples events ≤ MAX_OCCURRENCES
    few-occurrences =
        let each = sum-listed one (λ t. length (times_in diagram samples events t)) 500 size (λ i inside.
        let below = drawn-below size (draws i) (omega arith) in
        let count : length (times_in diagram samples events (one i)) ≡ count_of diagram.until events (one i).clock =
        ap (λ (ts : List ℕ). length ts) (plain-times diagram samples events (one i) refl) ∙ base-count diagram.until events (one i).clock (omega (arith, some), omega (arith, few, below), omega arith) in
        omega (arith, count, few-times size (size + drawn size (draws i)) events some (omega arith))) in
        omega (arith, each)
