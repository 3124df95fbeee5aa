-- The first fault of the rows of a trace section.
use Rattle.std.specs.Prelude.{ℕ, ◌+◌, Bool, false, not, ◌==◌, nat_le, nat_lt, if◌then◌else◌, List, [], ◌∷◌, length, Option, Some, None}
use Rattle.dbp_plan.specs.FirstFault.{faults_after}
use Rattle.trace_rows.specs.Cells.{is_time, cells_fit, time_of}
use Rattle.trace_rows.specs.declared.cell.Kind.{Kind}
use Rattle.trace_rows.specs.declared.fail.TraceCode.{TraceCode}
use Rattle.trace_rows.specs.declared.fail.TraceCode.TheVariants.{BadRow, BadCell, TimeNotRising, TimePastEnd, TooManyRows}
use Rattle.trace_rows.specs.declared.rows.TheConstants.{MAX_ROWS}

-- the first cell is a time, and each other one is of its column's form
abbrev pub row_fits : List Kind → List (List ℕ) → Bool
row_fits kinds [] = false
row_fits kinds (time ∷ cells) = if is_time time then cells_fit kinds cells else false

-- the time isn't greater than the one before, if there is one
abbrev pub is_not_after : Option ℕ → ℕ → Bool
is_not_after None time = false
is_not_after (Some before) time = nat_le time before

-- the first fault of the row with this number, from 1, after a row with this time or after none
abbrev pub row_fault : ℕ → List Kind → ℕ → Option ℕ → List (List ℕ) → Option TraceCode
row_fault until kinds number before row =
    if nat_lt MAX_ROWS number then Some TooManyRows else
    if not (length row == length kinds + 1) then Some BadRow else
    if not (row_fits kinds row) then Some BadCell else
    if is_not_after before (time_of row) then Some TimeNotRising else
    if nat_le until (time_of row) then Some TimePastEnd else None

-- the time of the last of the rows
abbrev pub last_time : List (List (List ℕ)) → Option ℕ
last_time [] = None
last_time (row ∷ []) = Some (time_of row)
last_time (row ∷ rows) = last_time rows

-- the first fault of the row that stands after these
abbrev pub fault_after : ℕ → List Kind → List (List (List ℕ)) → List (List ℕ) → Option TraceCode
fault_after until kinds before row = row_fault until kinds (length before + 1) (last_time before) row

-- each row with the number of its line and its first fault
abbrev pub row_faults : ℕ → List Kind → List (List (List ℕ)) → List ℕ → List (ℕ × Option TraceCode)
row_faults until kinds rows lines = faults_after (fault_after until kinds) [] rows lines
