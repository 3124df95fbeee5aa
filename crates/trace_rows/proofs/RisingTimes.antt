-- The times of rows without a fault rise, and stay below the end, also if only some of the rows are taken.
use Rattle.std.proofs.Common.{◌≡◌, ℕ, zero, suc, ◌+◌, ◌<◌, ◌≤◌, Bool, false, All, List, [], ◌∷◌, ◌++◌, length, map, Option, Some, None, refl, inl, inr, arith}
use native.Mathlib.Numerals.{unary_clauses}
use Rattle.std.specs.Prelude.{filter, nat_le, nat_lt, not, ◌==◌, ⊤}
use Rattle.std.specs.List.Sorted.{IsStrictlyIncreasing}
use Rattle.std.proofs.lemmas.Bool.{cases_Bool, leb-false}
use Rattle.std.proofs.lemmas.List.{length_push}
use Rattle.dbp_plan.specs.FirstFault.{faults_after, first_fault}
use Rattle.dbp_plan.proofs.FirstFaults.{cons-none, test-none}
use Rattle.trace_rows.specs.Cells.{time_of}
use Rattle.trace_rows.specs.Rows.{fault_after, is_not_after, last_time, row_fault, row_fits}
use Rattle.trace_rows.specs.declared.fail.TraceCode.TheVariants.{BadRow, BadCell, TimeNotRising, TimePastEnd, TooManyRows}
use Rattle.trace_rows.specs.declared.cell.Kind.{Kind}
use Rattle.trace_rows.specs.declared.rows.TheConstants.{MAX_ROWS}
use Rattle.trace_rows.proofs.RowTimes.{few-after}

-- the times rise from a bound on, and stay below the end
abbrev pub Rises : ℕ → ℕ → List (List (List ℕ)) → Type 0
Rises until low [] = ⊤
Rises until low (row ∷ rows) = (low ≤ time_of row) × (time_of row < until) × Rises until (time_of row + 1) rows

rises-lower : (until low lower : ℕ) (rows : List (List (List ℕ))) → lower ≤ low → Rises until low rows → Rises until lower rows
rises-lower until low lower [] less r = tt
rises-lower until low lower (row ∷ rows) less r = (omega (arith, less, r.0), r.1, r.2)

pub rises-filter : (until low : ℕ) (p : List (List ℕ) → Bool) (rows : List (List (List ℕ))) → Rises until low rows → Rises until low (filter p rows)
rises-filter until low p [] r = tt
rises-filter until low p (row ∷ rows) r = elim (cases_Bool (p row)) [
  | inl kept ↦ rw kept (r.0, r.1, rises-filter until (time_of row + 1) p rows r.2)
  | inr left ↦ rw left (rises-lower until (time_of row + 1) low (filter p rows) (omega (arith, r.0)) (rises-filter until (time_of row + 1) p rows r.2))
]

pub rises-times : (until low : ℕ) (rows : List (List (List ℕ))) → Rises until low rows → IsStrictlyIncreasing (map time_of rows)
rises-times until low [] r k fits = absurd (omega arith)
rises-times until low (row ∷ []) r k fits = absurd (omega arith)
rises-times until low (row ∷ next ∷ rows) r zero fits = omega (arith, r.2.0)
rises-times until low (row ∷ next ∷ rows) r (suc k) fits = simp unary_clauses (simp unary_clauses at (rises-times until (time_of row + 1) (next ∷ rows) r.2 k (omega arith)))

pub rises-ends : (until low : ℕ) (rows : List (List (List ℕ))) → Rises until low rows → All (λ t. t < until) (map time_of rows)
rises-ends until low [] r k d fits = absurd (omega arith)
rises-ends until low (row ∷ rows) r zero d fits = r.1
rises-ends until low (row ∷ rows) r (suc k) d fits = rises-ends until (time_of row + 1) rows r.2 k d (omega arith)

-- ---- rows without a fault

pub last-push : (rows : List (List (List ℕ))) (row : List (List ℕ)) → last_time (rows ++ row ∷ []) ≡ Some (time_of row)
last-push [] row = refl
last-push (first ∷ []) row = refl
last-push (first ∷ next ∷ rows) row = last-push (next ∷ rows) row

-- the least time after one
abbrev least_after : Option ℕ → ℕ
least_after None = 0
least_after (Some before) = before + 1

not-before : (before : Option ℕ) (time : ℕ) → is_not_after before time ≡ false → least_after before ≤ time
not-before None time rises = omega arith
not-before (Some before) time rises = omega (arith, leb-false time before rises)

-- what a row without a fault keeps
record IsTimed (until : ℕ) (before : Option ℕ) (row : List (List ℕ)) : Type 0 where
  pub low : least_after before ≤ time_of row
  pub ends : time_of row < until

row-timed : (until : ℕ) (kinds : List Kind) (number : ℕ) (before : Option ℕ) (row : List (List ℕ)) → row_fault until kinds number before row ≡ None → IsTimed until before row
row-timed until kinds number before row none =
    let few = test-none (nat_lt MAX_ROWS number) TooManyRows _ none in
    let whole = test-none (not (length row == length kinds + 1)) BadRow _ few.1 in
    let fits = test-none (not (row_fits kinds row)) BadCell _ whole.1 in
    let rising = test-none (is_not_after before (time_of row)) TimeNotRising _ fits.1 in
    let within = test-none (nat_le until (time_of row)) TimePastEnd None rising.1 in
    record { low = not-before before (time_of row) rising.0; ends = leb-false until (time_of row) within.0 }

module _ (until : ℕ) (kinds : List Kind) where
  NoFaultFrom : List (List (List ℕ)) → List (List (List ℕ)) → List ℕ → Type 0
  NoFaultFrom before rows lines = first_fault (faults_after (fault_after until kinds) before rows lines) ≡ None

  rises-from : (before rows : List (List (List ℕ))) (lines : List ℕ) → length rows ≤ length lines → NoFaultFrom before rows lines → Rises until (least_after (last_time before)) rows
  unfolding NoFaultFrom
  rises-from before [] lines fit none = tt
  rises-from before (row ∷ rows) [] fit none = absurd (omega arith)
  rises-from before (row ∷ rows) (line ∷ lines) fit none =
      let parts = cons-none line (fault_after until kinds before row) (faults_after (fault_after until kinds) (before ++ row ∷ []) rows lines) none in
      let timed = row-timed until kinds (length before + 1) (last_time before) row parts.0 in
      (timed.low, timed.ends, rw (last-push before row) at (rises-from (before ++ row ∷ []) rows lines (omega arith) parts.1))

  few-from : (before rows : List (List (List ℕ))) (lines : List ℕ) → length before ≤ MAX_ROWS → length rows ≤ length lines → NoFaultFrom before rows lines → length before + length rows ≤ MAX_ROWS
  unfolding NoFaultFrom
  few-from before [] lines few fit none = omega (arith, few)
  few-from before (row ∷ rows) [] few fit none = absurd (omega arith)
  few-from before (row ∷ rows) (line ∷ lines) few fit none =
      let parts = cons-none line (fault_after until kinds before row) (faults_after (fault_after until kinds) (before ++ row ∷ []) rows lines) none in
      let one = few-after until kinds (length before + 1) (last_time before) row parts.0 in
      let size = length_push before row in
      let rest = few-from (before ++ row ∷ []) rows lines (omega (arith, one, size)) (omega arith) parts.1 in
      omega (arith, rest, size)

  pub rows-rise : (rows : List (List (List ℕ))) (lines : List ℕ) → length rows ≤ length lines → first_fault (faults_after (fault_after until kinds) [] rows lines) ≡ None → Rises until 0 rows
  unfolding NoFaultFrom
  rows-rise rows lines fit none = rises-from [] rows lines fit none

  pub rows-few : (rows : List (List (List ℕ))) (lines : List ℕ) → length rows ≤ length lines → first_fault (faults_after (fault_after until kinds) [] rows lines) ≡ None → length rows ≤ MAX_ROWS
  unfolding NoFaultFrom
  rows-few rows lines fit none = omega (arith, few-from [] rows lines (omega arith) fit none)
