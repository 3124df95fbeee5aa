-- The printed lines of the bounds of a diagram's tasks.
use Rattle.std.specs.Prelude.{ℕ, List, [], ◌∷◌, ◌++◌, codes, slice_index_or}
use Rattle.std.specs.Fmt.{decimal}
use Rattle.dbp_plan.specs.declared.diagram.Diagram.{Diagram}
use Rattle.rta_check.specs.declared.bound.Bound.{Bound}
use Rattle.rta_check.specs.declared.bound.Bound.TheVariants.{At, Beyond}
use Rattle.rta_check.specs.Periods.{period_of}
use Rattle.dbp_answers.specs.TaskLines.{task_lines}

abbrev pub bound_text : Bound → List ℕ
bound_text (At r) = decimal r
bound_text Beyond = codes "beyond"

-- `TASK,R,PERIOD` or `TASK,beyond,PERIOD`, ended by LF (10); a comma is 44
abbrev pub bound_line : List ℕ → Bound → ℕ → List ℕ
bound_line name bound period = name ++ 44 ∷ bound_text bound ++ 44 ∷ decimal period ++ 10 ∷ []

-- a line for each task
abbrev pub bound_lines : Diagram → List Bound → List ℕ
bound_lines d bounds = task_lines (λ i task. bound_line task.name (slice_index_or bounds i Beyond) (period_of task.clock)) d
