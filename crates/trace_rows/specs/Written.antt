-- A trace section in its plain form: what is written, its text, and what it says.
use Rattle.std.specs.Prelude.{◌≡◌, ℕ, ℤ, ◌+◌, ◌<◌, ◌≤◌, Bool, true, false, All, List, [], ◌∷◌, ◌++◌, length, map, filter, slice_index_or, Option, Some, None, FitsSigned, codes}
use Rattle.std.specs.Int.{w64}
use Rattle.std.specs.Fmt.{decimal, signed_decimal}
use Rattle.std.specs.List.{flat_map, list_all}
use Rattle.std.specs.List.Sorted.{IsStrictlyIncreasing}
use Rattle.dbp_plan.specs.declared.diagram.Input.{Input}
use Rattle.dbp_plan.specs.declared.limits.TheConstants.{MAX_TIME}
use Rattle.dbp_plan.specs.declared.schedule.Sample.{Sample}
use Rattle.dbp_plan.specs.Name.{IsName}
use Rattle.dbp_plan.specs.NameLists.{index_of, is_among}
use Rattle.dia_read.specs.Printable.{ended_lines}
use Rattle.trace_rows.specs.declared.cell.Kind.{Kind}
use Rattle.trace_rows.specs.declared.cell.Kind.TheVariants.{Value, Mark}
use Rattle.trace_rows.specs.declared.rows.TheConstants.{MAX_ROWS}
use Rattle.trace_rows.specs.Headers.{input_names, are_distinct, kind_of_column}
use Rattle.trace_rows.specs.Values.{sample_of}

-- what is written for a column: nothing, an input's value, or that an event occurs
pub data WrittenCell : Type 0 where
  nothing : WrittenCell
  value : ℤ → WrittenCell
  mark : WrittenCell

-- a row: its time, and what is written for each column
pub record WrittenRow : Type 0 where
  pub time : ℕ
  pub cells : List WrittenCell

-- ---- the text

-- values are written in decimal, marks as `1`
abbrev pub cell_text : WrittenCell → List ℕ
cell_text nothing = []
cell_text (value v) = signed_decimal v
cell_text mark = codes "1"

-- the cells of a row, as they are read
abbrev pub written_cells : WrittenRow → List (List ℕ)
written_cells row = decimal row.time ∷ map cell_text row.cells

-- a first cell, and each further one after a comma (44)
abbrev pub line_of_cells : List ℕ → List (List ℕ) → List ℕ
line_of_cells first cells = first ++ flat_map (λ cell. 44 ∷ cell) cells

abbrev pub written_header : List (List ℕ) → List ℕ
written_header columns = line_of_cells (codes "time") columns

abbrev pub written_row : WrittenRow → List ℕ
written_row row = line_of_cells (decimal row.time) (map cell_text row.cells)

-- the header and the rows, each as a line
abbrev pub written_section : List (List ℕ) → List WrittenRow → List ℕ
written_section columns rows = ended_lines (written_header columns ∷ map written_row rows)

-- ---- what may be written

-- a value of 64 bits for an input, a mark for an event, and nothing for either
abbrev pub IsCellOf : Kind → WrittenCell → Type 0
IsCellOf kind nothing = Unit {0}
IsCellOf Value (value v) = FitsSigned w64 v
IsCellOf Mark mark = Unit {0}
IsCellOf kind cell = ⊥

-- one for each column
abbrev pub AreCellsOf : List Kind → List WrittenCell → Type 0
AreCellsOf [] [] = Unit {0}
AreCellsOf (kind ∷ kinds) (cell ∷ cells) = IsCellOf kind cell × AreCellsOf kinds cells
AreCellsOf _ _ = ⊥

-- the columns are distinct declared names, the times rise and are below `until`, and each row has what its columns hold
pub record CanWrite (until : ℕ) (inputs : List Input) (events columns : List (List ℕ)) (rows : List WrittenRow) : Type 0 where
  pub last : until ≤ MAX_TIME
  pub names : All IsName columns
  pub declared : list_all (is_among (input_names inputs ++ events)) columns ≡ true
  pub distinct : are_distinct columns ≡ true
  pub apart : All (λ event. is_among (input_names inputs) event ≡ false) events
  pub few : length rows ≤ MAX_ROWS
  pub rising : IsStrictlyIncreasing (map (λ row. row.time) rows)
  pub ends : All (λ row. row.time < until) rows
  pub cells : All (λ row. AreCellsOf (map (kind_of_column inputs) columns) row.cells) rows

-- ---- what it says

-- what the row has for the column with this name; nothing if there is no such column
abbrev pub written_under : List (List ℕ) → List ℕ → WrittenRow → WrittenCell
written_under columns name row = slice_index_or row.cells (index_of columns name) nothing

abbrev pub is_mark : WrittenCell → Bool
is_mark mark = true
is_mark _ = false

-- the times of the rows with the event's mark
abbrev pub written_times : List (List ℕ) → List WrittenRow → List ℕ → List ℕ
written_times columns rows event = map (λ row. row.time) (filter (λ row. is_mark (written_under columns event row)) rows)

abbrev pub value_of : WrittenCell → Option ℤ
value_of (value v) = Some v
value_of _ = None

-- the samples of a row: one of each input that has a value there, of which the first has this number
abbrev pub written_row_samples : List (List ℕ) → ℕ → List Input → WrittenRow → List Sample
written_row_samples columns number [] row = []
written_row_samples columns number (input ∷ inputs) row =
    sample_of row.time number (value_of (written_under columns input.name row)) ++ written_row_samples columns (number + 1) inputs row

abbrev pub written_samples : List (List ℕ) → List WrittenRow → List Input → List Sample
written_samples columns rows inputs = flat_map (written_row_samples columns 0 inputs) rows
