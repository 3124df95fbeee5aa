-- The rows of a written section have no fault, and say what was written.
use Rattle.std.proofs.Common.{◌≡◌, ℕ, zero, suc, ◌+◌, ◌<◌, ◌≤◌, All, true, false, List, [], ◌∷◌, ◌++◌, length, map, get_or, Option, Some, None, refl, ap, ◌∙◌, arith, inl, inr}
use native.Mathlib.Numerals.{unary_clauses}
use Rattle.std.specs.Prelude.{◌==◌, nat_le, nat_lt, codes}
use Rattle.std.specs.Fmt.{signed_decimal}
use Rattle.std.specs.List.Sorted.{IsStrictlyIncreasing}
use Rattle.std.proofs.Math.Bool.{or-true}
use Rattle.std.proofs.lemmas.Bool.{cases_Bool, cases_lt}
use Rattle.std.proofs.lemmas.Bool.Decides.{nat_tests}
use Rattle.std.proofs.lemmas.List.{get_or-map, get_or_past, length-map, length_push}
use Rattle.std.proofs.lemmas.List.Elements.{All-head, All-tail}
use Rattle.dbp_plan.specs.declared.diagram.Input.{Input}
use Rattle.dbp_plan.specs.FirstFault.{faults_after, first_fault}
use Rattle.dbp_plan.specs.NameLists.{index_of, is_among}
use Rattle.trace_rows.specs.declared.cell.Kind.{Kind}
use Rattle.trace_rows.specs.declared.cell.Kind.TheVariants.{Value, Mark}
use Rattle.trace_rows.specs.declared.rows.TheConstants.{MAX_ROWS}
use Rattle.trace_rows.specs.Cells.{cell_fits, cell_under, cells_fit, is_empty, is_one, time_of, value_in}
use Rattle.trace_rows.specs.Headers.{input_names, is_header, kind_of_column}
use Rattle.trace_rows.specs.Rows.{fault_after, is_not_after, last_time, row_fault, row_faults, row_fits}
use Rattle.trace_rows.specs.Values.{event_times, is_marked, row_samples, sample_of, samples_of, times_under}
use Rattle.trace_rows.specs.Written as written
use Rattle.trace_rows.specs.Written.{AreCellsOf, CanWrite, IsCellOf, WrittenCell, WrittenRow, cell_text, is_mark, nothing, mark, value_of, written_cells, written_row_samples, written_samples, written_times, written_under}
use Rattle.trace_rows.proofs.ColumnCells.{kind-of-input, known-input, name-found}
use Rattle.trace_rows.proofs.RisingTimes.{last-push}
use Rattle.trace_rows.proofs.WrittenText.{IsRow, number-cell, time-cell, time-value}

-- ---- no row has a fault

fits-cell : (kind : Kind) (cell : WrittenCell) → IsCellOf kind cell → cell_fits kind (cell_text cell) ≡ true
fits-cell Value nothing is = refl
fits-cell Mark nothing is = refl
fits-cell Value (written.value v) is = rw (number-cell v is).0 (or-true (is_empty (signed_decimal v)))
fits-cell Mark mark is = refl
fits-cell Value mark is = absurd is
fits-cell Mark (written.value v) is = absurd is

fit-cells : (kinds : List Kind) (cells : List WrittenCell) → AreCellsOf kinds cells → cells_fit kinds (map cell_text cells) ≡ true
fit-cells [] [] are = refl
fit-cells (kind ∷ kinds) (cell ∷ cells) are = rw (fits-cell kind cell are.0) (fit-cells kinds cells are.1)
fit-cells [] (cell ∷ cells) are = absurd are
fit-cells (kind ∷ kinds) [] are = absurd are

same-count : (kinds : List Kind) (cells : List WrittenCell) → AreCellsOf kinds cells → length (map cell_text cells) ≡ length kinds
same-count [] [] are = refl
same-count (kind ∷ kinds) (cell ∷ cells) are = ap suc (same-count kinds cells are.1)
same-count [] (cell ∷ cells) are = absurd are
same-count (kind ∷ kinds) [] are = absurd are

module _ (until : ℕ) (kinds : List Kind) where
  row-faultless : (number : ℕ) (before : Option ℕ) (r : WrittenRow) → IsRow kinds r → number ≤ MAX_ROWS → is_not_after before r.time ≡ false → r.time < until
      → row_fault until kinds number before (written_cells r) ≡ None
  row-faultless number before r (below, are) few after ends =
      let size : length (written_cells r) ≡ length kinds + 1 = omega (arith, same-count kinds r.cells are) in
      let not_many : nat_lt MAX_ROWS number ≡ false = grind (arith, nat_tests) in
      let whole : (length (written_cells r) == length kinds + 1) ≡ true = grind (arith, nat_tests) in
      let fits : row_fits kinds (written_cells r) ≡ true = rw (time-cell r.time below) (fit-cells kinds r.cells are) in
      let is : time_of (written_cells r) ≡ r.time = time-value r.time below in
      let within : nat_le until r.time ≡ false = grind (arith, nat_tests) in
      rw (not_many, whole, fits, is, after, within) refl

  -- the first of the rows is later
  abbrev IsAfter : Option ℕ → List WrittenRow → Type 0
  IsAfter before [] = Unit {0}
  IsAfter before (r ∷ rows) = is_not_after before r.time ≡ false

  next-after : (r : WrittenRow) (rows : List WrittenRow) → IsStrictlyIncreasing (map (λ r. r.time) (r ∷ rows)) → IsAfter (Some r.time) rows
  next-after r [] rising = tt
  next-after r (next ∷ rows) rising = let less : r.time < next.time = rising 0 (omega arith) in grind (arith, nat_tests)

  rest-rises : (t : ℕ) (ts : List ℕ) → IsStrictlyIncreasing (t ∷ ts) → IsStrictlyIncreasing ts
  rest-rises t ts rising k inside = simp unary_clauses (simp unary_clauses at (rising (suc k) (omega arith)))

  faultless-from : (before : List (List (List ℕ))) (rows : List WrittenRow) (lines : List ℕ) → All (IsRow kinds) rows → length before + length rows ≤ MAX_ROWS
      → IsAfter (last_time before) rows → IsStrictlyIncreasing (map (λ r. r.time) rows) → All (λ r. r.time < until) rows
      → first_fault (faults_after (fault_after until kinds) before (map written_cells rows) lines) ≡ None
  faultless-from before [] [] each few after rising ends = refl
  faultless-from before [] (line ∷ lines) each few after rising ends = refl
  faultless-from before (r ∷ rows) [] each few after rising ends = refl
  faultless-from before (r ∷ rows) (line ∷ lines) each few after rising ends =
      let here = All-head (IsRow kinds) r rows each in
      let none : fault_after until kinds before (written_cells r) ≡ None =
      row-faultless (length before + 1) (last_time before) r here (omega (arith, few)) after (All-head (λ r. r.time < until) r rows ends) in
      let last : last_time (before ++ written_cells r ∷ []) ≡ Some r.time = last-push before (written_cells r) ∙ ap Some (time-value r.time here.0) in
      let later : IsAfter (last_time (before ++ written_cells r ∷ [])) rows = rw last (next-after r rows rising) in
      let size = length_push before (written_cells r) in
      rw none (faultless-from (before ++ written_cells r ∷ []) rows lines (All-tail (IsRow kinds) r rows each) (omega (arith, few, size)) later
      (rest-rises r.time (map (λ r. r.time) rows) rising) (All-tail (λ r. r.time < until) r rows ends))

-- ---- what a row says under a name

text-at : (cells : List WrittenCell) (i : ℕ) → get_or (map cell_text cells) i [] ≡ cell_text (get_or cells i nothing)
text-at [] i = refl
text-at (cell ∷ cells) zero = refl
text-at (cell ∷ cells) (suc i) = text-at cells i

cell-at : (kinds : List Kind) (cells : List WrittenCell) (i : ℕ) (d : Kind) → AreCellsOf kinds cells → IsCellOf (get_or kinds i d) (get_or cells i nothing)
cell-at [] [] i d are = tt
cell-at (kind ∷ kinds) (cell ∷ cells) zero d are = are.0
cell-at (kind ∷ kinds) (cell ∷ cells) (suc i) d are = cell-at kinds cells i d are.1
cell-at [] (cell ∷ cells) i d are = absurd are
cell-at (kind ∷ kinds) [] i d are = absurd are

marks-are : (kind : Kind) (cell : WrittenCell) → kind ≡ Mark → IsCellOf kind cell → is_one (cell_text cell) ≡ is_mark cell
marks-are kind nothing same is = refl
marks-are kind mark same is = refl
marks-are Value (written.value v) same is = absurd cc
marks-are Mark (written.value v) same is = absurd is

values-are : (kind : Kind) (cell : WrittenCell) → kind ≡ Value → IsCellOf kind cell → value_in (cell_text cell) ≡ value_of cell
values-are kind nothing same is = refl
values-are Mark mark same is = absurd cc
values-are Value mark same is = absurd is
values-are Mark (written.value v) same is = absurd is
values-are Value (written.value v) same is = let number = number-cell v is in rw number.0 (ap Some number.1)

-- the column of an event holds marks
kind-of-event : (inputs : List Input) (columns : List (List ℕ)) (event : List ℕ) → is_among (input_names inputs) event ≡ false
    → get_or (map (kind_of_column inputs) columns) (index_of columns event) Mark ≡ Mark
kind-of-event inputs columns event other =
    let k = index_of columns event in
    elim (cases_lt k (length columns)) [
      | inl there ↦ get_or-map (kind_of_column inputs) columns k [] Mark there ∙ ap (kind_of_column inputs) (name-found columns event there) ∙ rw other refl
      | inr past ↦ get_or_past (map (kind_of_column inputs) columns) k Mark (omega (arith, past, length-map columns (kind_of_column inputs)))
    ]

module _ (inputs : List Input) (columns : List (List ℕ)) where
  under-is : (name : List ℕ) (r : WrittenRow) → cell_under columns name (written_cells r) ≡ cell_text (written_under columns name r)
  under-is name r = text-at r.cells (index_of columns name)

  marked-is : (event : List ℕ) (r : WrittenRow) → is_among (input_names inputs) event ≡ false → AreCellsOf (map (kind_of_column inputs) columns) r.cells
      → is_marked columns event (written_cells r) ≡ is_mark (written_under columns event r)
  marked-is event r other are =
      let k = index_of columns event in
      ap is_one (under-is event r)
      ∙ marks-are (get_or (map (kind_of_column inputs) columns) k Mark) (get_or r.cells k nothing) (kind-of-event inputs columns event other) (cell-at (map (kind_of_column inputs) columns) r.cells k Mark are)

  times-are : (event : List ℕ) (rows : List WrittenRow) → is_among (input_names inputs) event ≡ false → All (IsRow (map (kind_of_column inputs) columns)) rows
      → times_under columns (map written_cells rows) event ≡ written_times columns rows event
  times-are event [] other each = refl
  times-are event (r ∷ rows) other each =
      let here = All-head (IsRow (map (kind_of_column inputs) columns)) r rows each in
      let rest = times-are event rows other (All-tail (IsRow (map (kind_of_column inputs) columns)) r rows each) in
      let same = marked-is event r other here.1 in
      let time : time_of (written_cells r) ≡ r.time = time-value r.time here.0 in
      elim (cases_Bool (is_mark (written_under columns event r))) [
        | inl marked ↦ rw (same, marked) (λ j. time j ∷ rest j)
        | inr bare ↦ rw (same, bare) rest
      ]

  pub event-times-are : (events : List (List ℕ)) (rows : List WrittenRow) → All (λ event. is_among (input_names inputs) event ≡ false) events
      → All (IsRow (map (kind_of_column inputs) columns)) rows → event_times columns (map written_cells rows) events ≡ map (written_times columns rows) events
  event-times-are [] rows apart each = refl
  event-times-are (event ∷ events) rows apart each =
      let here = times-are event rows (All-head (λ event. is_among (input_names inputs) event ≡ false) event events apart) each in
      let rest = event-times-are events rows (All-tail (λ event. is_among (input_names inputs) event ≡ false) event events apart) each in
      λ j. here j ∷ rest j

  value-is : (name : List ℕ) (r : WrittenRow) → is_among (input_names inputs) name ≡ true → AreCellsOf (map (kind_of_column inputs) columns) r.cells
      → value_in (cell_under columns name (written_cells r)) ≡ value_of (written_under columns name r)
  value-is name r known are =
      let k = index_of columns name in
      ap value_in (under-is name r)
      ∙ values-are (get_or (map (kind_of_column inputs) columns) k Value) (get_or r.cells k nothing) (kind-of-input inputs columns name known) (cell-at (map (kind_of_column inputs) columns) r.cells k Value are)

  row-samples-are : (number : ℕ) (some : List Input) (r : WrittenRow) → All (λ input. is_among (input_names inputs) input.name ≡ true) some → IsRow (map (kind_of_column inputs) columns) r
      → row_samples columns number some (written_cells r) ≡ written_row_samples columns number some r
  row-samples-are number [] r known is = refl
  row-samples-are number (input ∷ some) r known is =
      let here = value-is input.name r (All-head (λ (i : Input). is_among (input_names inputs) i.name ≡ true) input some known) is.1 in
      let rest = row-samples-are (number + 1) some r (All-tail (λ (i : Input). is_among (input_names inputs) i.name ≡ true) input some known) is in
      λ j. sample_of (time-value r.time is.0 j) number (here j) ++ rest j

  pub samples-are : (rows : List WrittenRow) → All (IsRow (map (kind_of_column inputs) columns)) rows
      → samples_of columns (map written_cells rows) inputs ≡ written_samples columns rows inputs
  samples-are [] each = refl
  samples-are (r ∷ rows) each =
      let here = row-samples-are 0 inputs r (known-input inputs) (All-head (IsRow (map (kind_of_column inputs) columns)) r rows each) in
      let rest = samples-are rows (All-tail (IsRow (map (kind_of_column inputs) columns)) r rows each) in
      λ j. here j ++ rest j

-- ---- all of it

module _ (until : ℕ) (inputs : List Input) (events columns : List (List ℕ)) (rows : List WrittenRow) (can : CanWrite until inputs events columns rows) where
  pub each-row : All (IsRow (map (kind_of_column inputs) columns)) rows
  each-row k d inside = (omega (arith, can.ends k d inside, can.last), can.cells k d inside)

  pub header-is : is_header inputs events (codes "time" ∷ columns) ≡ true
  header-is = rw (can.declared, can.distinct) refl

  pub rows-faultless : (lines : List ℕ) → first_fault (row_faults until (map (kind_of_column inputs) columns) (map written_cells rows) lines) ≡ None
  rows-faultless lines =
      faultless-from until (map (kind_of_column inputs) columns) [] rows lines each-row (omega (arith, can.few)) (first-after rows) can.rising can.ends
    where
      first-after : (rows : List WrittenRow) → IsAfter until (map (kind_of_column inputs) columns) None rows
      first-after [] = tt
      first-after (r ∷ rows) = refl
