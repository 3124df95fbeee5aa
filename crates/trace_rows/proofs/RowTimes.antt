-- The rows with their numbers, and the times after which they stand.
use Rattle.std.proofs.Common.{◌≡◌, ℕ, ◌+◌, ◌≤◌, List, [], ◌∷◌, ◌++◌, length, take, Option, None, Some, refl, inl, inr}
use Rattle.std.specs.Prelude.{nat_lt}
use Rattle.std.proofs.lemmas.Bool.{cases_Bool, ltb-false}
use Rattle.std.proofs.lemmas.List.{length-take-le}
use Rattle.trace_rows.specs.Cells.{time_of}
use Rattle.trace_rows.specs.Rows.{fault_after, last_time, row_fault}
use Rattle.trace_rows.specs.declared.cell.Kind.{Kind}
use Rattle.trace_rows.specs.declared.rows.TheConstants.{MAX_ROWS}

pub last-more : (rows : List (List (List ℕ))) (row : List (List ℕ)) → last_time (rows ++ row ∷ []) ≡ Some (time_of row)
last-more [] row = refl
last-more (one ∷ []) row = refl
last-more (one ∷ next ∷ rows) row = last-more (next ∷ rows) row

-- the fault at a place, by the last time so far
pub fault-at : (until : ℕ) (kinds : List Kind) (rows : List (List (List ℕ))) (k : ℕ) (row : List (List ℕ)) → k ≤ length rows
    → row_fault until kinds (k + 1) (last_time (take k rows)) row ≡ fault_after until kinds (take k rows) row
fault-at until kinds rows k row fits = rw (length-take-le k rows fits) refl

pub few-after : (until : ℕ) (kinds : List Kind) (number : ℕ) (before : Option ℕ) (row : List (List ℕ)) → row_fault until kinds number before row ≡ None → number ≤ MAX_ROWS
few-after until kinds number before row none = elim (cases_Bool (nat_lt MAX_ROWS number)) [
  | inl over ↦ let some = rw over at none in absurd cc
  | inr under ↦ ltb-false MAX_ROWS number under
]
