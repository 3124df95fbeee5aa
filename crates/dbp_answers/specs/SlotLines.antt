-- The printed lines of a diagram's slots.
use Rattle.std.specs.Prelude.{ℕ, List, [], ◌∷◌, ◌++◌}
use Rattle.std.specs.Fmt.{decimal}
use Rattle.dbp_plan.specs.declared.diagram.Diagram.{Diagram}
use Rattle.dbp_slots.specs.Slots.{counts_of}
use Rattle.dbp_slots.specs.declared.slot_counts.Counts.{Counts}
use Rattle.dbp_answers.specs.TaskLines.{task_lines}

-- `task,lower,higher,delayed,sim,run`, ended by LF (10); a comma is 44
abbrev pub slot_line : List ℕ → Counts → List ℕ
slot_line name c = name ++ 44 ∷ decimal c.lower ++ 44 ∷ decimal c.higher ++ 44 ∷ decimal c.delayed ++ 44 ∷ decimal c.sim ++ 44 ∷ decimal c.run ++ 10 ∷ []

-- a line for each task
abbrev pub slot_lines : Diagram → List ℕ
slot_lines d = task_lines (λ i task. slot_line task.name (counts_of d i)) d
