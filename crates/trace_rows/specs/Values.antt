-- What the rows of a trace section give to inputs and events.
use Rattle.std.specs.Prelude.{ℕ, ℤ, ◌+◌, Bool, List, [], ◌∷◌, ◌++◌, map, filter, Option, Some, None}
use Rattle.std.specs.List.{flat_map}
use Rattle.dbp_plan.specs.declared.diagram.Input.{Input}
use Rattle.dbp_plan.specs.declared.schedule.Sample.{Sample}
use Rattle.trace_rows.specs.Cells.{value_in, is_one, time_of, cell_under}

-- whether the event with this name occurs at the row
abbrev pub is_marked : List (List ℕ) → List ℕ → List (List ℕ) → Bool
is_marked columns name row = is_one (cell_under columns name row)

-- the times of the event with this name: those of the rows at which it occurs
abbrev pub times_under : List (List ℕ) → List (List (List ℕ)) → List ℕ → List ℕ
times_under columns rows name = map time_of (filter (is_marked columns name) rows)

-- the times of each event
abbrev pub event_times : List (List ℕ) → List (List (List ℕ)) → List (List ℕ) → List (List ℕ)
event_times columns rows events = map (times_under columns rows) events

-- a sample of the input with this number, if there is a value
abbrev pub sample_of : ℕ → ℕ → Option ℤ → List Sample
sample_of time input None = []
sample_of time input (Some value) = record { time = time; input = input; value = value } ∷ []

-- the samples of a row, by input, of which the first has this number
abbrev pub row_samples : List (List ℕ) → ℕ → List Input → List (List ℕ) → List Sample
row_samples columns number [] row = []
row_samples columns number (input ∷ inputs) row =
    sample_of (time_of row) number (value_in (cell_under columns input.name row)) ++ row_samples columns (number + 1) inputs row

-- the samples of all rows
abbrev pub samples_of : List (List ℕ) → List (List (List ℕ)) → List Input → List Sample
samples_of columns rows inputs = flat_map (row_samples columns 0 inputs) rows
