-- What the rows hold in a column, by its index.
use Rattle.std.specs.Prelude.{◌≡◌, ℕ, ℤ, pos, neg_ℤ, ◌+◌, ◌^◌, ◌<◌, ◌&&◌, nat_le, nat_lt, false, if◌then◌else◌, List, [], ◌∷◌, ◌++◌, drop, length, slice_index_or, Option, Some, None}
use Rattle.dia_tokens.specs.Values.{digits_value}
use Rattle.dbp_plan.specs.declared.schedule.Sample.{Sample}
use Rattle.trace_rows.specs.declared.cell.Kind.{Kind}
use Rattle.trace_rows.specs.declared.cell.Kind.TheVariants.{Value, Mark}
use Rattle.trace_rows.specs.declared.cell.CellContent.{CellContent}
use Rattle.trace_rows.specs.Cells.{are_digits, is_one, value_in}
use Rattle.trace_rows.specs.Values.{sample_of}

-- the number of digits, and the same with `-` before them, if it has 64 bits
abbrev pub positive_in : List ℕ → Option ℤ
positive_in digits = if are_digits digits && nat_lt (digits_value digits) (2 ^ 63) then Some (pos (digits_value digits)) else None

abbrev pub negative_in : List ℕ → Option ℤ
negative_in digits = if are_digits digits && nat_le (digits_value digits) (2 ^ 63) then Some (neg_ℤ (pos (digits_value digits))) else None

-- the row's cell in the column with this index, and an empty one if the row has no such cell
abbrev pub cell_at : ℕ → List (List ℕ) → List ℕ
cell_at column row = slice_index_or (drop 1 row) column []

-- the value that a cell says in a column of this kind
abbrev pub value_under : Kind → List ℕ → Option ℤ
value_under Value cell = value_in cell
value_under Mark cell = None

-- what a cell says in a column of this kind
abbrev pub content_in : Kind → List ℕ → CellContent
content_in kind cell = record { value = value_under kind cell; is_one = is_one cell }

-- what is said in no column
abbrev pub nothing : CellContent
nothing = record { value = None; is_one = false }

-- for each column there is what the row's cell says
abbrev pub HasSaid : List Kind → List (List ℕ) → List CellContent → Type 0
HasSaid kinds row said =
    (k : ℕ) → k < length kinds → slice_index_or said k nothing ≡ content_in (slice_index_or kinds k Value) (cell_at k row)

-- the samples at this time of the inputs whose columns these are, of which the first has this number
abbrev pub said_samples : ℕ → ℕ → List ℕ → List CellContent → List Sample
said_samples time number [] said = []
said_samples time number (column ∷ columns) said =
    sample_of time number (slice_index_or said column nothing).value ++ said_samples time (number + 1) columns said

-- the times of the events whose columns these are, with this time after those of each event that occurs
abbrev pub times_with : ℕ → List ℕ → List CellContent → List (List ℕ) → List (List ℕ)
times_with time (column ∷ columns) said (times ∷ events) =
    (if (slice_index_or said column nothing).is_one then times ++ time ∷ [] else times) ∷ times_with time columns said events
times_with time _ said events = events
