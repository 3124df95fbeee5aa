-- The header of a trace section.
use Rattle.std.specs.Prelude.{ℕ, Bool, true, false, not, ◌&&◌, if◌then◌else◌, List, [], ◌∷◌, ◌++◌, map, codes}
use Rattle.std.specs.List.{list_all}
use Rattle.std.specs.Str.{bytes_eq}
use Rattle.dbp_plan.specs.declared.diagram.Input.{Input}
use Rattle.dbp_plan.specs.NameLists.{is_among}
use Rattle.trace_rows.specs.declared.cell.Kind.{Kind}
use Rattle.trace_rows.specs.declared.cell.Kind.TheVariants.{Value, Mark}

abbrev pub input_names : List Input → List (List ℕ)
input_names inputs = map (λ i. i.name) inputs

-- no name stands twice
abbrev pub are_distinct : List (List ℕ) → Bool
are_distinct [] = true
are_distinct (name ∷ names) = not (is_among names name) && are_distinct names

-- `time`, and then distinct names of inputs and events
abbrev pub is_header : List Input → List (List ℕ) → List (List ℕ) → Bool
is_header inputs events [] = false
is_header inputs events (first ∷ columns) =
    bytes_eq first (codes "time") && list_all (is_among (input_names inputs ++ events)) columns && are_distinct columns

-- what the column with this name holds: an input's values, or else an event's marks
abbrev pub kind_of_column : List Input → List ℕ → Kind
kind_of_column inputs name = if is_among (input_names inputs) name then Value else Mark
