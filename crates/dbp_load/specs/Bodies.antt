-- The generated document of a seed and a size.
use Rattle.std.specs.Prelude.{◌≡◌, ℕ, zero, suc, pos, ◌+◌, ◌-◌, ◌*◌, ◌≤◌, min, Bool, true, false, nat_lt, List, [], ◌∷◌, ◌++◌, length, Some, None, codes, decimal}
use Rattle.std.proofs.Common.{arith}
use Rattle.std.proofs.lemmas.List.{length-append}
use Rattle.dbp_plan.specs.declared.diagram.Policy.TheVariants.{Fp}
use Rattle.dia_lines.specs.declared.item.Decl.TheVariants.{Input}
use Rattle.dia_lines.specs.declared.item.Part.{Part}
use Rattle.dia_lines.specs.declared.item.Part.TheVariants.{State, Sense, Read, Next, Out}
use Rattle.dia_lines.specs.declared.item.RawClock.TheVariants.{Every}
use Rattle.dia_read.specs.declared.document.Body.{Body}
use Rattle.dia_read.specs.declared.document.RawTask.{RawTask}
use Rattle.trace_rows.specs.Written.{WrittenRow, value, written_section}
use Rattle.drawn_numbers.specs.Draws.{drawn, after_draw, after_draws}
use Rattle.dbp_load.specs.Expressions.{next_expr, out_expr}
use Rattle.dbp_load.specs.Listed.{first_items}

-- ---- names

abbrev pub task_name : ℕ → List ℕ
task_name i = codes "t" ++ decimal i

-- with the digit of a number below 10
abbrev pub read_name : ℕ → List ℕ
read_name j = codes "r" ++ (48 + j) ∷ []

-- ---- reads; the generator is the one after the word for the clock

-- over the task with the number, with its delay
abbrev pub read_of : List ℕ → ℕ → ℕ → Part
read_of name delay writer = Read name delay (task_name writer) (codes "y") 0

-- task i reads a task before it
abbrev pub early_read : ℕ → ℕ → ℕ → Part
early_read draws i j = read_of (read_name j) 0 (drawn i (after_draws j draws))

-- each task but the last reads one after it, with a delay; so many reads are before it
abbrev pub late_read : ℕ → ℕ → ℕ → ℕ → Part
late_read size draws i early = read_of (codes "q") 1 (i + 1 + drawn (size - 1 - i) (after_draws early draws))

-- whether task i isn't the last
abbrev pub has_late : ℕ → ℕ → Bool
has_late size i = nat_lt (i + 1) size

abbrev pub late_reads : Bool → Part → List Part
late_reads true read = read ∷ []
late_reads false read = []

abbrev pub late_names : Bool → List (List ℕ)
late_names true = codes "q" ∷ []
late_names false = []

abbrev pub names_of_reads : ℕ → Bool → List (List ℕ)
names_of_reads early late = first_items read_name early ++ late_names late

length-listed : {A : Type 0} (item : ℕ → A) (n : ℕ) → length (first_items item n) ≡ n
length-listed item zero = omega arith
length-listed item (suc n) = omega (arith, length-listed item n, length-append (first_items item n) (item n ∷ []))

few-late : (late : Bool) → length (late_names late) ≤ 1
few-late true = omega arith
few-late false = omega arith

pub few_reads : (early : ℕ) (late : Bool) → early ≤ 3 → length (names_of_reads early late) ≤ 4
few_reads early late few = omega (arith, few-late late, length-listed read_name early, length-append (first_items read_name early) (late_names late))

-- ---- tasks

-- the body of task i, with so many reads of tasks before it, and maybe one of a task after it
abbrev pub parts_of : ℕ → ℕ → ℕ → (early : ℕ) → Bool → early ≤ 3 → List Part
parts_of size draws i early late few =
    State (codes "s") (pos 0)
    ∷ Sense (codes "g0") (codes "g")
    ∷ (first_items (early_read draws i) early
    ++ (late_reads late (late_read size draws i early)
    ++ Next (codes "s") next_expr
    ∷ Out (codes "y") (pos i) (out_expr (names_of_reads early late) (few_reads early late few))
    ∷ []))

abbrev pub early_count : ℕ → ℕ
early_count i = min i 3

pub few_early : (i : ℕ) → early_count i ≤ 3
few_early i = omega arith

-- by the generator after the word for the clock
abbrev pub body_of_task : ℕ → ℕ → ℕ → List Part
body_of_task size draws i = parts_of size draws i (early_count i) (has_late size i) (few_early i)

-- task i, by the generator before its first word
abbrev pub generated_task : ℕ → ℕ → ℕ → RawTask
generated_task size draws i = record {
  name = task_name i;
  clock = Every (size + drawn size draws) 0;
  when = None;
  prio = Some (size - i);
  deadline = None;
  cost = 1;
  cpu = 0;
  parts = body_of_task size (after_draw draws) i;
}

-- how many words are drawn for the tasks before task i
abbrev pub words_before : ℕ → ℕ
words_before zero = 0
words_before (suc i) = words_before i + (early_count i + 2)

-- ---- the document

-- row r of the trace
abbrev pub trace_row : ℕ → ℕ → WrittenRow
trace_row size r = record { time = 50 * size * r; cells = value (pos (37 * r)) ∷ [] }

abbrev pub trace_text : ℕ → List ℕ
trace_text size = written_section (codes "g" ∷ []) (first_items (trace_row size) 10)

abbrev pub generated_tasks : ℕ → ℕ → List RawTask
generated_tasks seed size = first_items (λ i. generated_task size (after_draws (words_before i) seed) i) size

abbrev pub generated_body : ℕ → ℕ → Body
generated_body seed size = record {
  version = 1;
  policy = Fp;
  until = 500 * size;
  decls = Input (codes "g") (pos 1) ∷ [];
  tasks = generated_tasks seed size;
  trace = Some (trace_text size);
  script = None;
}
