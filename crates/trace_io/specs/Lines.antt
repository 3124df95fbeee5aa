-- The printed lines of a table.
use Rattle.std.specs.Prelude.{ℕ, ℤ, List, [], ◌∷◌, ◌++◌, slice_get}
use Rattle.std.specs.Fmt.{decimal, signed_decimal}
use Rattle.std.specs.List.{flat_map}
use Rattle.std.specs.Option.{option_map_or}
use Rattle.dbp_plan.specs.declared.diagram.Diagram.{Diagram}
use Rattle.dbp_plan.specs.declared.diagram.Task.{Task}
use Rattle.dbp_plan.specs.declared.schedule.Batch.{Batch}
use Rattle.dbp_plan.specs.declared.table.Table.{Table}
use Rattle.dbp_plan.specs.Occurrences.{count_until, times_of}
use Rattle.dbp_plan.specs.Table.{table_row}

-- each word in decimal, after a comma (44)
abbrev pub cells_of : List ℤ → List ℕ
cells_of words = flat_map (λ word. 44 ∷ signed_decimal word) words

-- `task,n,v1,..,vk`, ended by LF (10)
abbrev pub line_rest : List ℕ → ℕ → List ℤ → List ℕ
line_rest name number words = name ++ 44 ∷ decimal number ++ cells_of words ++ 10 ∷ []

-- `t,task,n,v1,..,vk`
abbrev pub line_text : ℕ → List ℕ → ℕ → List ℤ → List ℕ
line_text time name number words = decimal time ++ 44 ∷ line_rest name number words

-- the name of the task
abbrev pub name_of : List Task → ℕ → List ℕ
name_of tasks i = option_map_or (λ t. t.name) (slice_get tasks i) []

-- the line of the task's occurrence with this number
abbrev pub numbered_line : List Task → Table → ℕ → ℕ → ℕ → List ℕ
numbered_line tasks table time i n = line_text time (name_of tasks i) n (table_row table i n)

-- the number of the task's occurrence at this time, from 1: how many of its times have come
abbrev pub number_of : List Batch → ℕ → ℕ → ℕ
number_of batches i time = count_until (times_of batches i) time

-- the line of the task's occurrence at this time
abbrev pub line_of : List Task → List Batch → Table → ℕ → ℕ → List ℕ
line_of tasks batches table time i = numbered_line tasks table time i (number_of batches i time)

-- all occurrences by time and then by declaration
abbrev pub lines_of : Diagram → List Batch → Table → List ℕ
lines_of d batches table = flat_map (λ b. flat_map (line_of d.tasks batches table b.time) b.tasks) batches
