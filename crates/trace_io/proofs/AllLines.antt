-- Batch by batch, all lines are printed.
use Rattle.std.proofs.Common.{◌≡◌, ℕ, zero, suc, ◌+◌, ◌<◌, ◌≤◌, ◌++◌, ◌∷◌, [], true, All, List, length, take, get_or, arith, rules, refl, sym, ap, subst, ◌∙◌, inl, inr}
use Rattle.std.specs.Prelude.{◌==◌}
use Rattle.std.specs.List.{flat_map, list_any}
use Rattle.std.specs.List.Sorted.{IsStrictlyIncreasing}
use Rattle.std.proofs.lemmas.Bool.{cases_Bool}
use Rattle.std.proofs.lemmas.List.{flat_map_more, take_more}
use Rattle.std.proofs.lemmas.List.Elements.{All-from_get_or}
use Rattle.dbp_plan.specs.declared.diagram.Diagram.{Diagram}
use Rattle.dbp_plan.specs.declared.limits.TheConstants.{MAX_OCCURRENCES}
use Rattle.dbp_plan.specs.declared.schedule.Batch.{Batch}
use Rattle.dbp_plan.specs.declared.schedule.Sample.{Sample}
use Rattle.dbp_plan.specs.declared.table.Table.{Table}
use Rattle.dbp_plan.specs.Occurrences.{names, times_of}
use Rattle.dbp_plan.specs.Plan.{IsPlan}
use Rattle.dbp_plan.specs.Table.{HasRow, HasRows}
use Rattle.trace_io.specs.Lines.{line_of, number_of, numbered_line}
use Rattle.trace_io.specs.Printing.{CanPrint, Counts, numbered_lines}
use Rattle.dbp_plan.proofs.ListMaps.{same-flat_map}
use Rattle.std.proofs.Math.Bool.{or-true}
use Rattle.dbp_plan.proofs.Numbers.{Rise, rise, number-is}
use Rattle.dbp_plan.proofs.TaskTimes.{more-named, more-other, some-of, times_few}

-- the lines of the batches before place k stand, and each task is counted up to there
pub record PrintedTo (d : Diagram) (batches : List Batch) (table : Table) (k : ℕ) (counts text : List ℕ) : Type 0 where
  pub places : length counts ≡ length d.tasks
  pub counted : (i : ℕ) → i < length d.tasks → get_or counts i 0 ≡ length (times_of (take k batches) i)
  pub lines : text ≡ flat_map (λ b. flat_map (line_of d.tasks batches table b.time) b.tasks) (take k batches)

is-named : (xs : List ℕ) (k : ℕ) → k < length xs → list_any (λ n. n == get_or xs k 0) xs ≡ true
is-named [] k fits = absurd (omega arith)
is-named (x ∷ xs) zero fits = let own : (x == x) ≡ true = search rules in rw own refl
is-named (x ∷ xs) (suc k) fits = rw (is-named xs k (omega arith)) (or-true (x == get_or xs k 0))

-- the task's occurrence after so many is in this batch
record IsNext (batches : List Batch) (i count : ℕ) (b : Batch) : Type 0 where
  pub there : count + 1 ≤ length (times_of batches i)
  pub number : number_of batches i b.time ≡ count + 1

next-is : (d : Diagram) (samples : List Sample) (batches : List Batch) (table : Table) (k : ℕ) (counts text : List ℕ) (b : Batch) (j : ℕ) → IsPlan d samples batches
    → PrintedTo d batches table k counts text → k < length batches → get_or batches k b ≡ b → All (λ i. i < length d.tasks) b.tasks → j < length b.tasks
    → IsNext batches (get_or b.tasks j 0) (get_or counts (get_or b.tasks j 0) 0) b
next-is d samples batches table k counts text b j plan p fits same named less =
    let i = get_or b.tasks j 0 in
    let is : names i (get_or batches k b) ≡ true = rw same (is-named b.tasks j less) in
    let up : Rise batches = rise batches plan.rising in
    let more = more-named batches i k b fits is in
    let count = p.counted i (named j 0 less) in
    let number : number_of batches i (get_or batches k b).time ≡ get_or counts i 0 + 1 = number-is batches i k b up fits ∙ more ∙ ap (λ n. n + 1) (sym count) in
    record {
      there = omega (arith, some-of batches i (k + 1), more, count);
      number = ap (λ (a : Batch). number_of batches i a.time) (sym same) ∙ number;
    }

pub can-print : (d : Diagram) (samples : List Sample) (batches : List Batch) (table : Table) (k : ℕ) (counts text : List ℕ) (b : Batch) → IsPlan d samples batches → HasRows d.tasks batches table
    → PrintedTo d batches table k counts text → k < length batches → get_or batches k b ≡ b → CanPrint d.tasks table counts b.tasks
can-print d samples batches table k counts text b plan all p fits same =
    let named : All (λ i. i < length d.tasks) b.tasks = subst (λ (a : Batch). All (λ i. i < length d.tasks) a.tasks) same (plan.named k b fits) in
    record {
      places = p.places;
      few = All-from_get_or (λ n. n ≤ MAX_OCCURRENCES) counts 0 (λ i less. omega (arith, p.counted i (rw (sym p.places) less), some-of batches i k, times_few batches i, plan.few));
      in_order = subst (λ (a : Batch). IsStrictlyIncreasing a.tasks) same (plan.in_order k b fits);
      there = named;
      rows = All-from_get_or (λ i. HasRow table i (get_or counts i 0 + 1)) b.tasks 0 (λ j less.
          let next = next-is d samples batches table k counts text b j plan p fits same named less in
          all (get_or b.tasks j 0) (get_or counts (get_or b.tasks j 0) 0 + 1) (named j 0 less) next.there);
    }

pub printed-more : (d : Diagram) (samples : List Sample) (batches : List Batch) (table : Table) (k : ℕ) (counts next text : List ℕ) (b : Batch) → IsPlan d samples batches
    → PrintedTo d batches table k counts text → k < length batches → get_or batches k b ≡ b → Counts counts next b.tasks
    → PrintedTo d batches table (k + 1) next (text ++ numbered_lines d.tasks table b.time counts b.tasks)
printed-more d samples batches table k counts next text b plan p fits same c =
    let named : All (λ i. i < length d.tasks) b.tasks = subst (λ (a : Batch). All (λ i. i < length d.tasks) a.tasks) same (plan.named k b fits) in
    let batch_lines : Batch → List ℕ = λ (a : Batch). flat_map (line_of d.tasks batches table a.time) a.tasks in
    let each : All (λ i. line_of d.tasks batches table b.time i ≡ numbered_line d.tasks table b.time i (get_or counts i 0 + 1)) b.tasks =
    All-from_get_or (λ i. line_of d.tasks batches table b.time i ≡ numbered_line d.tasks table b.time i (get_or counts i 0 + 1)) b.tasks 0
    (λ j less. ap (numbered_line d.tasks table b.time (get_or b.tasks j 0)) (next-is d samples batches table k counts text b j plan p fits same named less).number) in
    let here : batch_lines (get_or batches k b) ≡ numbered_lines d.tasks table b.time counts b.tasks =
    ap batch_lines same ∙ same-flat_map (line_of d.tasks batches table b.time) (λ i. numbered_line d.tasks table b.time i (get_or counts i 0 + 1)) b.tasks each in
    record {
      places = c.places ∙ p.places;
      counted = λ i less.
          let was = p.counted i less in
          let now = c.each i (rw p.places less) in
          elim (cases_Bool (names i b)) [
            | inl is ↦
                let more = more-named batches i k b fits (ap (names i) same ∙ is) in
                let one : get_or next i 0 ≡ get_or counts i 0 + 1 = rw is at now in
                omega (arith, was, one, more)
            | inr not ↦
                let more = more-other batches i k b fits (ap (names i) same ∙ not) in
                let one : get_or next i 0 ≡ get_or counts i 0 + 0 = rw not at now in
                omega (arith, was, one, more)
          ];
      lines = rw (take_more batches k b fits, p.lines, sym here) (flat_map_more batch_lines [] (take k batches) (get_or batches k b));
    }
