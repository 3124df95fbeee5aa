-- Printed lines of a diagram's tasks.
use Rattle.std.specs.Prelude.{ℕ, List}
use Rattle.std.specs.List.{enumerate_from, flat_map}
use Rattle.dbp_plan.specs.declared.diagram.Diagram.{Diagram}
use Rattle.dbp_plan.specs.declared.diagram.Task.{Task}

-- a line for each task, in order of declaration, by its number and the task
abbrev pub task_lines : (ℕ → Task → List ℕ) → Diagram → List ℕ
task_lines line d = flat_map (λ (i, task). line i task) (enumerate_from 0 d.tasks)
