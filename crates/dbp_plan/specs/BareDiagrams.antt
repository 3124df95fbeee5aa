-- What of a diagram its meaning depends on, besides when its tasks occur.
use Rattle.std.specs.Prelude.{[], map, None}
use Rattle.dbp_plan.specs.declared.diagram.Diagram.{Diagram}
use Rattle.dbp_plan.specs.declared.diagram.Policy.TheVariants.{Fp}
use Rattle.dbp_plan.specs.declared.diagram.Task.{Task}

-- the task without prio and deadline
abbrev pub bare_task : Task → Task
bare_task t = record t { prio = None; deadline = None }

-- the diagram without policy, end, prios, deadlines and ranks
abbrev pub bare_diagram : Diagram → Diagram
bare_diagram d = record d { policy = Fp; until = 0; tasks = map bare_task d.tasks; ranks = [] }
