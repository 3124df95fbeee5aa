-- The lines of a scenario's trace, column by column.
use Rattle.std.specs.Prelude.{ℕ, List, [], ◌∷◌, ◌++◌, codes, decimal, slice_index_or}
use Rattle.std.specs.List.{flat_map}
use Rattle.trace_rows.specs.Written.{cell_text}
use Rattle.slot_need.specs.declared.column.Column.{Column}
use Rattle.slot_need.specs.Bodies.{cell_at}

-- a column's name, after a comma (44)
abbrev pub name_bytes : List (List ℕ) → Column → List ℕ
name_bytes events c = 44 ∷ slice_index_or events c.event []

-- its cell in the row of the firing with this number
abbrev pub cell_bytes : ℕ → Column → List ℕ
cell_bytes k c = 44 ∷ cell_text (cell_at k c.firing)

-- the header, ended by a line feed (10)
abbrev pub header_bytes : List (List ℕ) → List Column → List ℕ
header_bytes events columns = codes "time" ++ flat_map (name_bytes events) columns ++ 10 ∷ []

-- the row of the firing with this number, at this time
abbrev pub row_bytes : List Column → ℕ → ℕ → List ℕ
row_bytes columns time k = decimal time ++ flat_map (cell_bytes k) columns ++ 10 ∷ []
