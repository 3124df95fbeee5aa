-- Tables and their rows.
use Rattle.std.proofs.Common.{◌≡◌, ℕ, ℤ, zero, suc, ◌≤◌, ◌+◌, ◌-◌, ◌*◌, List, [], ◌∷◌, ◌++◌, length, take, drop, slice_get, Some, refl, sym, ◌∙◌, ap, subst, arith, inl, inr, length-append}
use Rattle.std.specs.Prelude.{slice_range}
use Rattle.std.proofs.Math.Nat.{mul-le-mul_right}
use Rattle.std.proofs.Math.Seq.{take-add}
use Rattle.std.proofs.lemmas.Bool.{cases_lt}
use Rattle.std.proofs.lemmas.List.{take_all}
use Rattle.std.proofs.lemmas.Option.{same_Some}
use Rattle.dbp_plan.specs.declared.diagram.Task.{Task}
use Rattle.dbp_plan.specs.declared.schedule.Batch.{Batch}
use Rattle.dbp_plan.specs.declared.table.Table.{Table}
use Rattle.dbp_plan.specs.declared.table.TaskRows.{TaskRows}
use Rattle.dbp_plan.specs.Occurrences.{times_of}
use Rattle.dbp_plan.specs.Table.{HasAllRows, HasRowsOf, IsRow, row_at, table_row}
use Rattle.dbp_plan.specs.ListItems.{at_place, same_list}
use Rattle.dbp_plan.specs.Ranges.{range_after, range_front}

-- the values of the rows up to this number
values_to : (ℕ → List ℤ) → ℕ → List ℤ
values_to row zero = row 0
values_to row (suc n) = values_to row n ++ row (suc n)

length-values_to : (outs n : ℕ) (row : ℕ → List ℤ) → ((k : ℕ) → k ≤ n → length (row k) ≡ outs) → length (values_to row n) ≡ (n + 1) * outs
unfolding values_to
length-values_to outs zero row each = each 0 (omega arith) ∙ omega arith
length-values_to outs (suc n) row each =
    let before : length (values_to row n) ≡ (n + 1) * outs = length-values_to outs n row (λ k few. each k (omega arith)) in
    let last : length (row (suc n)) ≡ outs = each (suc n) (omega arith) in
    let one : suc n ≡ n + 1 = omega arith in
    length-append (values_to row n) (row (suc n)) ∙ rw (before, last, one) (omega arith)

range_of : (outs n k : ℕ) (row : ℕ → List ℤ) → ((j : ℕ) → j ≤ n → length (row j) ≡ outs) → k ≤ n → slice_range (values_to row n) (k * outs) ((k + 1) * outs) ≡ row k
unfolding values_to
range_of outs zero zero row each few = range_after [] (row 0) (0 * outs) ((0 + 1) * outs) (omega arith) (omega (arith, each 0 few))
range_of outs zero (suc k) row each few = absurd (omega arith)
range_of outs (suc n) k row each few =
    let size : length (values_to row n) ≡ (n + 1) * outs = length-values_to outs n row (λ j less. each j (omega arith)) in
    elim (cases_lt k (suc n)) [
      | inl before ↦
          let scaled : (k + 1) * outs ≤ (n + 1) * outs = mul-le-mul_right outs (omega arith) in
          range_front (values_to row n) (row (suc n)) (k * outs) ((k + 1) * outs) (omega arith) (omega arith) ∙ range_of outs n k row (λ j less. each j (omega arith)) (omega arith)
      | inr last ↦
          let here : k ≡ suc n = omega arith in
          let one : k ≡ n + 1 = omega arith in
          let first : k * outs ≡ length (values_to row n) = ap (λ (j : ℕ). j * outs) one ∙ sym size in
          let end : length (row (suc n)) ≡ outs = each (suc n) (omega arith) in
          range_after (values_to row n) (row (suc n)) (k * outs) ((k + 1) * outs) first (omega arith) ∙ ap row (sym here)
    ]

-- the first rows of two lists of values
take_same : (outs n k : ℕ) (xs ys : List ℤ) → ((j : ℕ) → j ≤ n → slice_range xs (j * outs) ((j + 1) * outs) ≡ slice_range ys (j * outs) ((j + 1) * outs)) → k ≤ n + 1 → take (k * outs) xs ≡ take (k * outs) ys
take_same outs n zero xs ys same few = let none : 0 * outs ≡ 0 = omega arith in rw none refl
take_same outs n (suc k) xs ys same few =
    let before : take (k * outs) xs ≡ take (k * outs) ys = take_same outs n k xs ys same (omega arith) in
    let all : suc k * outs ≡ k * outs + outs = omega arith in
    let size : (k + 1) * outs - k * outs ≡ outs = omega arith in
    let row : take outs (drop (k * outs) xs) ≡ take outs (drop (k * outs) ys) = subst (λ (m : ℕ). take m (drop (k * outs) xs) ≡ take m (drop (k * outs) ys)) size (same k (omega arith)) in
    ap (λ (m : ℕ). take m xs) all ∙ take-add (k * outs) outs xs ∙ ap (λ (l : List ℤ). l ++ take outs (drop (k * outs) xs)) before
    ∙ ap (λ (l : List ℤ). take (k * outs) ys ++ l) row ∙ sym (take-add (k * outs) outs ys) ∙ ap (λ (m : ℕ). take m ys) (sym all)

same_values : (outs n : ℕ) (xs ys : List ℤ) → length xs ≡ (n + 1) * outs → length ys ≡ (n + 1) * outs
    → ((j : ℕ) → j ≤ n → slice_range xs (j * outs) ((j + 1) * outs) ≡ slice_range ys (j * outs) ((j + 1) * outs)) → xs ≡ ys
same_values outs n xs ys size_x size_y same =
    sym (take_all ((n + 1) * outs) xs (omega arith)) ∙ take_same outs n (n + 1) xs ys same (omega arith) ∙ take_all ((n + 1) * outs) ys (omega arith)

same_rows : (outs n : ℕ) (x y : TaskRows) → HasRowsOf outs n x → HasRowsOf outs n y → ((j : ℕ) → j ≤ n → row_at x j ≡ row_at y j) → x ≡ y
same_rows outs n x y has_x has_y same =
    let ports : x.ports ≡ y.ports = has_x.ports ∙ sym has_y.ports in
    let rows : (j : ℕ) → j ≤ n → slice_range x.words (j * outs) ((j + 1) * outs) ≡ slice_range y.words (j * outs) ((j + 1) * outs) =
    λ j few.
    ap (λ (p : ℕ). slice_range x.words (j * p) ((j + 1) * p)) (sym has_x.ports) ∙ same j few ∙ ap (λ (p : ℕ). slice_range y.words (j * p) ((j + 1) * p)) has_y.ports in
    let words : x.words ≡ y.words = same_values outs n x.words y.words has_x.size has_y.size rows in
    λ i. record { ports = ports i; words = words i }

-- a table's row with this number
pub row_in : (table : Table) (i n : ℕ) (row : List ℤ) → IsRow table i n row → table_row table i n ≡ row
row_in table i n row r = rw r.has_rows (sym r.is)

pub table_row-at : (table : Table) (i n : ℕ) (rows : TaskRows) → slice_get table.tasks i ≡ Some rows → table_row table i n ≡ row_at rows n
table_row-at table i n rows at = rw at refl

-- two tables with the same rows are one
pub same_table : (tasks : List Task) (batches : List Batch) (x y : Table) → HasAllRows tasks batches x → HasAllRows tasks batches y
    → ((i n : ℕ) (task : Task) → slice_get tasks i ≡ Some task → n ≤ length (times_of batches i) → table_row x i n ≡ table_row y i n) → x ≡ y
same_table tasks batches x y has_x has_y same =
    let all : x.tasks ≡ y.tasks = same_list x.tasks y.tasks (has_x.size ∙ sym has_y.size) (λ i below.
    let t : (t : Task) × (slice_get tasks i ≡ Some t) = at_place tasks i (omega (arith, has_x.size)) in
    let a : (r : TaskRows) × (slice_get x.tasks i ≡ Some r) = at_place x.tasks i below in
    let b : (r : TaskRows) × (slice_get y.tasks i ≡ Some r) = at_place y.tasks i (omega (arith, has_x.size, has_y.size)) in
    let rows : a.0 ≡ b.0 = same_rows (length t.0.outs) (length (times_of batches i)) a.0 b.0 (has_x.each i t.0 a.0 t.1 a.1) (has_y.each i t.0 b.0 t.1 b.1)
    (λ n few. sym (table_row-at x i n a.0 a.1) ∙ same i n t.0 t.1 few ∙ table_row-at y i n b.0 b.1) in
    a.1 ∙ ap (λ (r : TaskRows). Some r) rows ∙ sym b.1) in
    λ i. record { tasks = all i }

-- the table of given rows
abbrev task_rows : (ℕ → ℕ → List ℤ) → List Batch → ℕ → Task → TaskRows
task_rows rows batches i task = record { ports = length task.outs; words = values_to (rows i) (length (times_of batches i)) }

tables_from : (ℕ → ℕ → List ℤ) → List Batch → ℕ → List Task → List TaskRows
tables_from rows batches i [] = []
tables_from rows batches i (task ∷ tasks) = task_rows rows batches i task ∷ tables_from rows batches (suc i) tasks

pub table_of : (ℕ → ℕ → List ℤ) → List Batch → List Task → Table
table_of rows batches tasks = record { tasks = tables_from rows batches 0 tasks }

length-tables_from : (rows : ℕ → ℕ → List ℤ) (batches : List Batch) (i : ℕ) (tasks : List Task) → length (tables_from rows batches i tasks) ≡ length tasks
unfolding tables_from
length-tables_from rows batches i [] = refl
length-tables_from rows batches i (task ∷ tasks) = ap suc (length-tables_from rows batches (suc i) tasks)

tables_from-at : (rows : ℕ → ℕ → List ℤ) (batches : List Batch) (i j k : ℕ) (tasks : List Task) (task : Task) → i + j ≡ k → slice_get tasks j ≡ Some task
    → slice_get (tables_from rows batches i tasks) j ≡ Some (task_rows rows batches k task)
unfolding tables_from
tables_from-at rows batches i j k [] task sum at = absurd (cc (at))
tables_from-at rows batches i zero k (t ∷ tasks) task sum at =
    let place : i ≡ k = omega arith in
    let same : t ≡ task = same_Some _ _ at in
    ap (λ (p : ℕ). Some (task_rows rows batches p t)) place ∙ ap (λ (u : Task). Some (task_rows rows batches k u)) same
tables_from-at rows batches i (suc j) k (t ∷ tasks) task sum at = tables_from-at rows batches (suc i) j k tasks task (omega arith) at

table_of-at : (rows : ℕ → ℕ → List ℤ) (batches : List Batch) (i : ℕ) (tasks : List Task) (task : Task) → slice_get tasks i ≡ Some task → slice_get (table_of rows batches tasks).tasks i ≡ Some (task_rows rows batches i task)
unfolding table_of
table_of-at rows batches i tasks task at = tables_from-at rows batches 0 i i tasks task (omega arith) at

-- rows that are as wide as their tasks' outs
pub record AreWide (rows : ℕ → ℕ → List ℤ) (batches : List Batch) (tasks : List Task) : Type 0 where
  pub each : (i n : ℕ) (task : Task) → slice_get tasks i ≡ Some task → n ≤ length (times_of batches i) → length (rows i n) ≡ length task.outs

pub table_of-all : (rows : ℕ → ℕ → List ℤ) (batches : List Batch) (tasks : List Task) → AreWide rows batches tasks → HasAllRows tasks batches (table_of rows batches tasks)
unfolding table_of
table_of-all rows batches tasks wide = record {
  size = length-tables_from rows batches 0 tasks;
  each = λ i task has at_task at_rows.
      let same : task_rows rows batches i task ≡ has = same_Some _ _ (sym (table_of-at rows batches i tasks task at_task) ∙ at_rows) in
      let size : length (values_to (rows i) (length (times_of batches i))) ≡ (length (times_of batches i) + 1) * length task.outs =
      length-values_to (length task.outs) (length (times_of batches i)) (rows i) (λ k few. wide.each i k task at_task few) in
      subst (λ (r : TaskRows). HasRowsOf (length task.outs) (length (times_of batches i)) r) same (record { ports = refl; size = size });
}

pub table_of-row : (rows : ℕ → ℕ → List ℤ) (batches : List Batch) (tasks : List Task) (i n : ℕ) (task : Task) → AreWide rows batches tasks → slice_get tasks i ≡ Some task → n ≤ length (times_of batches i)
    → IsRow (table_of rows batches tasks) i n (rows i n)
table_of-row rows batches tasks i n task wide at few =
    let outs : ℕ = length task.outs in
    let last : ℕ = length (times_of batches i) in
    let each : (k : ℕ) → k ≤ last → length (rows i k) ≡ outs = λ k less. wide.each i k task at less in
    let scaled : (n + 1) * outs ≤ (last + 1) * outs = mul-le-mul_right outs (omega arith) in
    let size : length (values_to (rows i) last) ≡ (last + 1) * outs = length-values_to outs last (rows i) each in
    record {
      rows = task_rows rows batches i task;
      has_rows = table_of-at rows batches i tasks task at;
      there = omega arith;
      is = sym (range_of outs last n (rows i) each few);
    }
