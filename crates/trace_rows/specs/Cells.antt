-- The forms of cells.
use Rattle.std.specs.Prelude.{ℕ, ℤ, Bool, true, false, not, ◌==◌, ◌&&◌, ◌||◌, if◌then◌else◌, List, [], ◌∷◌, length, drop, slice_index_or, Option, Some, None, codes}
use Rattle.std.specs.List.{list_all}
use Rattle.std.specs.Str.{bytes_eq}
use Rattle.dia_tokens.specs.Kinds.{is_digit}
use Rattle.dia_tokens.specs.Values.{digits_value, is_negative, number_of, is_in_range}
use Rattle.dbp_plan.specs.NameLists.{index_of}
use Rattle.trace_rows.specs.declared.cell.Kind.{Kind}
use Rattle.trace_rows.specs.declared.cell.Kind.TheVariants.{Value, Mark}

abbrev pub is_empty : List ℕ → Bool
is_empty cell = length cell == 0

-- digits alone, at least one
abbrev pub are_digits : List ℕ → Bool
are_digits cell = not (is_empty cell) && list_all is_digit cell

-- a time: digits alone, with a value below 2 ^ 63
abbrev pub is_time : List ℕ → Bool
is_time cell = are_digits cell && is_in_range cell

-- a number: digits, optionally after `-`, from -2 ^ 63 to 2 ^ 63 - 1
abbrev pub is_number : List ℕ → Bool
is_number cell = are_digits (if is_negative cell then drop 1 cell else cell) && is_in_range cell

-- the number in the cell, if one stands there
abbrev pub value_in : List ℕ → Option ℤ
value_in cell = if is_number cell then Some (number_of cell) else None

-- whether the cell says that the event occurs
abbrev pub is_one : List ℕ → Bool
is_one cell = bytes_eq cell (codes "1")

-- an input's cell is empty or a number, and an event's is empty, `0` or `1`
abbrev pub cell_fits : Kind → List ℕ → Bool
cell_fits Value cell = is_empty cell || is_number cell
cell_fits Mark cell = is_empty cell || bytes_eq cell (codes "0") || is_one cell

-- each cell is of its column's form, and there is one for each column
abbrev pub cells_fit : List Kind → List (List ℕ) → Bool
cells_fit [] [] = true
cells_fit (kind ∷ kinds) (cell ∷ cells) = cell_fits kind cell && cells_fit kinds cells
cells_fit _ _ = false

-- the time of a row: the value of its first cell, if that is a time
abbrev pub time_of : List (List ℕ) → ℕ
time_of row = digits_value (slice_index_or row 0 [])

-- of a row with a cell for each column: its cell in the column with this name, and an empty one if there is no such column
abbrev pub cell_under : List (List ℕ) → List ℕ → List (List ℕ) → List ℕ
cell_under columns name row = slice_index_or (drop 1 row) (index_of columns name) []
